-- The first mistake in a line of a script.
use Rattle.std.specs.Prelude.{ℕ, List, [], ◌∷◌, Bool, true, length, codes, Option, Some, None, ◌&&◌, not, is_some, nat_eq, nat_lt, option_map, option_and_then, unwrap_or, if◌then◌else◌}
use Rattle.std.specs.Option.{option_map_or}
use Rattle.prodash_script.specs.Reading.{bound_of, cut_at_space, small_of}
use Rattle.prodash_script.specs.Units.{is_unit_word}
use Rattle.prodash_script.specs.Words.{Reader, after_prefix, lookup, number_of, ref_to}
use Rattle.prodash_script.specs.declared.mistake.Argument.{Argument}
use Rattle.prodash_script.specs.declared.mistake.Argument.TheVariants as args
use Rattle.prodash_script.specs.declared.mistake.Mistake.{Mistake}
use Rattle.prodash_script.specs.declared.mistake.Mistake.TheVariants.{UnknownCommand, DrawsFrame, Missing, Invalid, UnknownItem, Extra}

-- a mistake, wherever its word is stored
abbrev pub plain_mistake : Mistake → Mistake
plain_mistake (UnknownCommand word) = UnknownCommand (ref_to word.now)
plain_mistake (DrawsFrame word) = DrawsFrame (ref_to word.now)
plain_mistake (Missing argument) = Missing argument
plain_mistake (Invalid argument word) = Invalid argument (ref_to word.now)
plain_mistake (UnknownItem word) = UnknownItem (ref_to word.now)
plain_mistake (Extra text) = Extra (ref_to text.now)

-- the name in a word that begins with an `@` and goes on
abbrev pub name_in : List ℕ → Option (List ℕ)
name_in [] = None
name_in (c ∷ name) = if nat_eq c 64 && nat_lt 0 (length name) then Some name else None

-- a number of columns or rows, which is at least 1 and has 16 bits
abbrev pub size_number_of : Reader ℕ
size_number_of word =
    option_and_then (λ n. if nat_lt 0 n then Some n else None) (small_of word)

-- what comes after each first word
abbrev pub arguments : List (List ℕ × List Argument)
arguments =
    (codes "add", args.Item ∷ args.Name ∷ [])
    ∷ (codes "name", args.Item ∷ args.Name ∷ [])
    ∷ (codes "info", args.Item ∷ args.Message ∷ [])
    ∷ (codes "done", args.Item ∷ args.Message ∷ [])
    ∷ (codes "fail", args.Item ∷ args.Message ∷ [])
    ∷ (codes "print", args.Text ∷ [])
    ∷ (codes "drop", args.Item ∷ [])
    ∷ (codes "blocked", args.Item ∷ [])
    ∷ (codes "halted", args.Item ∷ [])
    ∷ (codes "running", args.Item ∷ [])
    ∷ (codes "init", args.Item ∷ args.Max ∷ args.Unit ∷ [])
    ∷ (codes "max", args.Item ∷ args.Max ∷ [])
    ∷ (codes "set", args.Item ∷ args.Number ∷ [])
    ∷ (codes "inc", args.Item ∷ args.Number ∷ [])
    ∷ (codes "droproot", [])
    ∷ (codes "size", args.Columns ∷ args.Rows ∷ [])
    ∷ []

-- the first words of lines that draw frames
abbrev pub frames : List (List ℕ × Bool)
frames =
    (codes "tick", true)
    ∷ (codes "hold", true)
    ∷ (codes "resize", true)
    ∷ (codes "quit", true)
    ∷ []

-- the mistake of a first word that no line of a script has
abbrev pub not_command : List ℕ → Mistake
not_command word =
    if is_some (lookup frames word) then DrawsFrame (ref_to word) else UnknownCommand (ref_to word)

-- whether words are such an argument, with the handles of items; a message is more than its moment
abbrev pub is_argument : Reader ℕ → Argument → List ℕ → Bool
is_argument handle args.Word word = nat_lt 0 (length word)
is_argument handle args.Item word = is_some (handle word)
is_argument handle args.Number word = is_some (number_of word)
is_argument handle args.Max word = is_some (bound_of word)
is_argument handle args.Unit word = is_unit_word word
is_argument handle args.Name word = true
is_argument handle args.Text word = true
is_argument handle args.Message word = not (is_some (bound_of word))
is_argument handle args.Columns word = is_some (size_number_of word)
is_argument handle args.Rows word = is_some (size_number_of word)

-- the mistake of a word that is not such an argument
abbrev pub not_argument : Argument → List ℕ → Mistake
not_argument args.Item word =
    if is_some (name_in word) then UnknownItem (ref_to word) else Invalid args.Item (ref_to word)
not_argument args.Message word = Missing args.Message
not_argument argument word = Invalid argument (ref_to word)

-- the text before the first space, and the text after it if there is a space
abbrev pub split : List ℕ → List ℕ × Option (List ℕ)
split text = option_map_or (λ parts. (parts.0, Some parts.1)) (cut_at_space text) (text, None)

-- the next word and what comes after it; the last one ends where the line does
abbrev pub next_word : List Argument → List ℕ → List ℕ × Option (List ℕ)
next_word [] rest = (rest, None)
next_word (_ ∷ _) rest = split rest

-- the mistake of a line that ends before this argument, unless it may be left out
abbrev pub missing : Argument → Option Mistake
missing args.Unit = None
missing argument = Some (Missing argument)

-- the first mistake in what comes after a space, if there is one
abbrev pub mistake_after : Reader ℕ → List Argument → Option (List ℕ) → Option Mistake
mistake_after handle [] rest = option_map (λ text. Extra (ref_to text)) rest
mistake_after handle (first ∷ more) None = missing first
mistake_after handle (first ∷ more) (Some rest) =
    let next = next_word more rest in
    if is_argument handle first next.0 then mistake_after handle more next.1
    else Some (not_argument first next.0)

-- the first mistake in a line, if there is one
abbrev pub mistake_in : Reader ℕ → List ℕ → Option Mistake
mistake_in handle line =
    option_map_or
    (λ rest. mistake_after handle (args.Word ∷ args.Item ∷ args.Name ∷ []) (Some rest))
    (after_prefix (codes "add @") line)
    (option_map_or (λ all. mistake_after handle all (split line).1)
    (lookup arguments (split line).0)
    (Some (not_command (split line).0)))

-- the first mistake in a line that is no command; if none is found, the whole line is unknown
abbrev pub first_mistake : Reader ℕ → List ℕ → Mistake
first_mistake handle line = unwrap_or (mistake_in handle line) (UnknownCommand (ref_to line))
