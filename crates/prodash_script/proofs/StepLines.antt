-- The lines that change a step.
use Rattle.std.proofs.Common.{◌≡◌, ℕ, ◌<◌, Bool, true, false, nat_eq, nat_lt, List, [], ◌∷◌, ◌++◌, length, drop, get_or, refl, sym, ap, ◌∙◌, arith, rules}
use Rattle.std.specs.Prelude.{Option, Some, None, String, codes, option_map, option_and_then, unwrap_or, bytes_eq, if◌then◌else◌}
use Rattle.std.specs.Option.{option_map_or}
use Rattle.std.specs.HashMap.{HashMap}
use Rattle.std.specs.List.{starts_with, position_or_len, before_first, after_first}
use Rattle.std.proofs.lemmas.Bool.Decides.{nat_tests}
use Rattle.std.proofs.lemmas.List.Sums.{split_at_first, passes_at_first}
use Rattle.std.proofs.lemmas.Bool.{false≢true}
use Rattle.std.proofs.lemmas.Slice.Eq.{bytes_eq-Decides}
use Rattle.prodash_base.specs.Rows.{unknown_id}
use Rattle.prodash_base.specs.declared.messages.MessageLevel.{MessageLevel}
use Rattle.prodash_base.specs.declared.messages.MessageLevel.TheVariants.{Info, Success, Failure}
use Rattle.prodash_base.specs.declared.unit.units.Unit.{Unit}
use Rattle.prodash_core.specs.declared.tree.event.Event.{Event}
use Rattle.prodash_core.specs.declared.tree.event.Event.TheVariants as events
use Rattle.prodash_script.specs.declared.change.Change.TheVariants as changes
use Rattle.prodash_script.specs.declared.change.StepChange.{StepChange}
use Rattle.prodash_script.specs.declared.change.StepChange.TheVariants as steps
use Rattle.prodash_script.specs.declared.command.Command.{Command}
use Rattle.prodash_script.specs.declared.command.Command.TheVariants as commands
use Rattle.prodash_script.specs.declared.mistake.Mistake.{Mistake}
use Rattle.prodash_script.specs.Commands.{accepted, begin_of, command_of, event_command, event_of, handle_in, is_comment, moment_in, named_add_of, print_of, send_of, size_of}
use Rattle.prodash_script.specs.Mistakes.{first_mistake}
use Rattle.prodash_script.specs.Reading.{all_events, alone, bound_of, cut_at_space, read_by, small_of, text_of, then_read}
use Rattle.prodash_script.specs.Steps.{step_in}
use Rattle.prodash_script.specs.Units.{unit_in}
use Rattle.prodash_script.specs.Words.{Reader, after_prefix, lookup, number_of, ref_to}
use Rattle.prodash_script.proofs.UnitWords.{begins}

-- the change of a step that an event is, if it is one
abbrev changed : Option Event → Option (ℕ × StepChange)
changed event = option_and_then step_in (option_and_then event_command event)

-- `H N` as a change
abbrev change_of : (ℕ → StepChange) → Reader ℕ → Reader (ℕ × StepChange)
change_of change handle rest = option_map (λ a. (a.0, change a.1)) (then_read handle number_of rest)

-- a line as a change of a step
abbrev pub step_line : Reader ℕ → Reader (ℕ × StepChange)
step_line handle line =
    option_map_or (change_of steps.Set handle) (after_prefix (codes "set ") line)
    (option_and_then (change_of steps.IncBy handle) (after_prefix (codes "inc ") line))

set_changes : (x : Option (ℕ × ℕ)) → option_map (λ a. (a.0, steps.Set a.1)) x ≡ changed (option_map (λ a. events.Set a.0 a.1) x)
set_changes None = refl
set_changes (Some a) = refl

inc_changes : (x : Option (ℕ × ℕ)) → option_map (λ a. (a.0, steps.IncBy a.1)) x ≡ changed (option_map (λ a. events.IncBy a.0 a.1) x)
inc_changes None = refl
inc_changes (Some a) = refl

set_line : (handle : Reader ℕ) → (now : ℕ) → (rest : List ℕ) → change_of steps.Set handle rest ≡ option_and_then step_in (accepted handle now (codes "set " ++ rest))
unfolding cut_at_space
set_line handle now rest =
    let within : nat_lt 3 (length (codes "set " ++ rest)) ≡ true = grind (arith, nat_tests) in
    rw within (set_changes (then_read handle number_of rest))

inc_line : (handle : Reader ℕ) → (now : ℕ) → (rest : List ℕ) → change_of steps.IncBy handle rest ≡ option_and_then step_in (accepted handle now (codes "inc " ++ rest))
unfolding cut_at_space
inc_line handle now rest =
    let within : nat_lt 3 (length (codes "inc " ++ rest)) ≡ true = grind (arith, nat_tests) in
    rw within (inc_changes (then_read handle number_of rest))

-- events that change no step

-- an event, if there is one, that is no change of a step
abbrev IsOther : Option Event → Type 0
IsOther event = None ≡ changed event

other : {A : Type 0} → (event : A → Event) → ((a : A) → IsOther (Some (event a))) → (x : Option A) → IsOther (option_map event x)
other event h None = refl
other event h (Some a) = h a

-- a claim, if the entries of a table that has a word in it read words as no change of a step
abbrev IfOther : List (List ℕ × Reader Event) → List ℕ → List ℕ → Type 0 → Type 0
IfOther [] word rest claim = claim
IfOther (entry ∷ table) word rest claim = (bytes_eq word entry.0 ≡ true → IsOther (entry.1 rest)) → IfOther table word rest claim

so : {A B : Type 0} → (table : List (List ℕ × Reader Event)) → (word rest : List ℕ) → (A → B) → IfOther table word rest A → IfOther table word rest B
so [] word rest f h = f h
so (entry ∷ table) word rest f h = λ k. so table word rest f (h k)

listed : (here : Bool) → (read : Reader Event) → (table : List (List ℕ × Reader Event)) → (word rest : List ℕ) → (here ≡ true → IsOther (read rest)) → IsOther (read_by table word rest) → IsOther (option_and_then (λ r. r rest) (if here then Some read else lookup table word))
listed true read table word rest h k = h refl
listed false read table word rest h k = k

others : (table : List (List ℕ × Reader Event)) → (word rest : List ℕ) → IfOther table word rest (IsOther (read_by table word rest))
others [] word rest = refl
others (entry ∷ table) word rest = λ h. so table word rest (listed (bytes_eq word entry.0) entry.1 table word rest h) (others table word rest)

alone_other : (here : Bool) → IsOther (if here then Some events.DropRoot else None)
alone_other true = refl
alone_other false = refl

other_event : (handle moment : Reader ℕ) → (word rest : List ℕ) → bytes_eq word (codes "set") ≡ false → bytes_eq word (codes "inc") ≡ false → IsOther (read_by (all_events handle moment) word rest)
other_event handle moment word rest set inc =
    others (all_events handle moment) word rest
    (λ is. other (λ a. events.AddChild a.0 a.1 unknown_id) (λ a. refl) (then_read handle text_of rest))
    (λ is. other (λ a. events.SetName a.0 a.1) (λ a. refl) (then_read handle text_of rest))
    (λ is. other (λ a. events.Message a.0 a.1.0 Info a.1.1) (λ a. refl) (then_read handle (then_read moment text_of) rest))
    (λ is. other (λ a. events.Message a.0 a.1.0 Success a.1.1) (λ a. refl) (then_read handle (then_read moment text_of) rest))
    (λ is. other (λ a. events.Message a.0 a.1.0 Failure a.1.1) (λ a. refl) (then_read handle (then_read moment text_of) rest))
    (λ is. other (λ a. events.Init a.0 a.1.0 a.1.1) (λ a. refl) (then_read handle (then_read bound_of unit_in) rest))
    (λ is. other (λ a. events.Drop a) (λ a. refl) (handle rest))
    (λ is. other (λ a. events.SetMax a.0 a.1) (λ a. refl) (then_read handle bound_of rest))
    (λ is. absurd (false≢true (sym set ∙ is)))
    (λ is. absurd (false≢true (sym inc ∙ is)))
    (λ is. other (λ a. events.Blocked a (ref_to (codes "replay")) None) (λ a. refl) (handle rest))
    (λ is. other (λ a. events.Halted a (ref_to (codes "replay")) None) (λ a. refl) (handle rest))
    (λ is. other (λ a. events.Running a) (λ a. refl) (handle rest))
    (λ is. other (λ a. events.Tick a true) (λ a. refl) (moment rest))
    (λ is. other (λ a. events.Tick a false) (λ a. refl) (moment rest))
    (λ is. other (λ a. events.Resize a.0 true a.1.0 a.1.1) (λ a. refl) (then_read moment (then_read small_of small_of) rest))
    (λ is. other (λ a. events.Quit a) (λ a. refl) (moment rest))

-- the first word of a line

cut_parts : (line word rest : List ℕ) → (b : Bool) → nat_lt (position_or_len (λ b. nat_eq b 32) line) (length line) ≡ b → if◌then◌else◌ {A = Option (List ℕ × List ℕ)} b (Some (before_first (λ b. nat_eq b 32) line, after_first (λ b. nat_eq b 32) line)) None ≡ Some (word, rest) → line ≡ word ++ 32 ∷ rest
cut_parts line word rest false is cut = search rules
cut_parts line word rest true is cut =
    let within : position_or_len (λ b. nat_eq b 32) line < length line = grind (arith, nat_tests) in
    let passes = passes_at_first (λ b. nat_eq b 32) line 0 within in
    let space : get_or line (position_or_len (λ b. nat_eq b 32) line) 0 ≡ 32 = grind (arith, nat_tests) in
    let front : before_first (λ b. nat_eq b 32) line ≡ word = search rules in
    let back : after_first (λ b. nat_eq b 32) line ≡ rest = search rules in
    let whole = split_at_first (λ b. nat_eq b 32) line 0 within in
    whole ∙ ap (λ l. l ++ get_or line (position_or_len (λ b. nat_eq b 32) line) 0 ∷ after_first (λ b. nat_eq b 32) line) front ∙ ap (λ c. word ++ c ∷ after_first (λ b. nat_eq b 32) line) space ∙ ap (λ l. word ++ 32 ∷ l) back

cut_line : (line word rest : List ℕ) → cut_at_space line ≡ Some (word, rest) → line ≡ word ++ 32 ∷ rest
unfolding cut_at_space
cut_line line word rest cut = cut_parts line word rest _ refl cut

-- a line that doesn't begin with a word and a space has another first word
not_first : (line word rest first : List ℕ) → (b : Bool) → bytes_eq word first ≡ b → cut_at_space line ≡ Some (word, rest) → starts_with nat_eq line (first ++ codes " ") ≡ false → starts_with nat_eq (first ++ 32 ∷ rest) (first ++ codes " ") ≡ true → bytes_eq word first ≡ false
not_first line word rest first false is cut differs starts = is
not_first line word rest first true is cut differs starts =
    let same = (bytes_eq-Decides word first).0 is in
    let whole : line ≡ first ++ 32 ∷ rest = cut_line line word rest cut ∙ ap (λ w. w ++ 32 ∷ rest) same in
    let begins : starts_with nat_eq line (first ++ codes " ") ≡ true = rw whole starts in
    absurd (false≢true (sym differs ∙ begins))

other_cut : (handle moment : Reader ℕ) → (line : List ℕ) → (c : Option (List ℕ × List ℕ)) → cut_at_space line ≡ c → starts_with nat_eq line (codes "set ") ≡ false → starts_with nat_eq line (codes "inc ") ≡ false → IsOther (option_map_or (λ parts. read_by (all_events handle moment) parts.0 parts.1) c (alone line))
other_cut handle moment line None cut set inc = alone_other (bytes_eq line (codes "droproot"))
other_cut handle moment line (Some (word, rest)) cut set inc = other_event handle moment word rest (not_first line word rest (codes "set") _ refl cut set refl) (not_first line word rest (codes "inc") _ refl cut inc refl)

-- a command that is no change of a step

named_other : (x : Option (List ℕ × (ℕ × List ℕ))) → None ≡ option_and_then step_in (option_map (λ a. commands.Add (Some a.0) a.1.0 a.1.1) x)
named_other None = refl
named_other (Some a) = refl

begin_other : (x : Option (ℕ × (Option ℕ × Option Unit))) → None ≡ option_and_then step_in (option_map (λ a. commands.Change a.0 (changes.Init a.1.0 a.1.1)) x)
begin_other None = refl
begin_other (Some a) = refl

size_other : (x : Option (ℕ × ℕ)) → None ≡ option_and_then step_in (option_map (λ a. commands.Size a.0 a.1) x)
size_other None = refl
size_other (Some a) = refl

send_other : (level : MessageLevel) → (x : Option (ℕ × (ℕ × List ℕ))) → None ≡ option_and_then step_in (option_map (λ a. commands.Change a.0 (changes.Message a.1.0 level a.1.1)) x)
send_other level None = refl
send_other level (Some a) = refl

-- what a form reads after a prefix, or else another command, if none of them is a change of a step
other_form : (form : Reader Command) → ((rest : List ℕ) → None ≡ option_and_then step_in (form rest)) → (x : Option (List ℕ)) → (event : Option Command) → None ≡ option_and_then step_in event → None ≡ option_and_then step_in (option_map_or form x event)
other_form form h None event k = k
other_form form h (Some rest) event k = h rest

other_line : (handle : Reader ℕ) → (now : ℕ) → (line : List ℕ) → starts_with nat_eq line (codes "set ") ≡ false → starts_with nat_eq line (codes "inc ") ≡ false → None ≡ option_and_then step_in (accepted handle now line)
other_line handle now line set inc =
    other_form (named_add_of handle) (λ rest. named_other _) (after_prefix (codes "add @") line) _
    (other_form (begin_of handle) (λ rest. begin_other _) (after_prefix (codes "init ") line) _
    (other_form size_of (λ rest. size_other _) (after_prefix (codes "size ") line) _
    (other_form print_of (λ rest. refl) (after_prefix (codes "print ") line) _
    (other_form (send_of Info handle now) (λ rest. send_other Info _) (after_prefix (codes "info ") line) _
    (other_form (send_of Success handle now) (λ rest. send_other Success _) (after_prefix (codes "done ") line) _
    (other_form (send_of Failure handle now) (λ rest. send_other Failure _) (after_prefix (codes "fail ") line) (event_of handle (moment_in now) line)
    (other_cut handle (moment_in now) line (cut_at_space line) refl set inc)))))))

-- all lines

by_tests : (handle : Reader ℕ) → (now : ℕ) → (line : List ℕ) → (set inc : Bool) → starts_with nat_eq line (codes "set ") ≡ set → starts_with nat_eq line (codes "inc ") ≡ inc → step_line handle line ≡ option_and_then step_in (accepted handle now line)
by_tests handle now line true inc is k =
    let whole = begins (codes "set ") line (drop 4 line) true is refl in
    rw is (set_line handle now (drop 4 line) ∙ ap (λ l. option_and_then step_in (accepted handle now l)) (sym whole))
by_tests handle now line false true h is =
    let whole = begins (codes "inc ") line (drop 4 line) true is refl in
    rw (h, is) (inc_line handle now (drop 4 line) ∙ ap (λ l. option_and_then step_in (accepted handle now l)) (sym whole))
by_tests handle now line false false h k = rw (h, k) (other_line handle now line h k)

accepted_step : (handle : Reader ℕ) → (now : ℕ) → (line : List ℕ) → step_line handle line ≡ option_and_then step_in (accepted handle now line)
accepted_step handle now line = by_tests handle now line _ _ refl refl

or_mistake : (x : Option Command) → (mistake : Mistake) → option_and_then step_in x ≡ step_in (unwrap_or x (commands.Fault mistake))
or_mistake None mistake = refl
or_mistake (Some x) mistake = refl

comment_other : (handle : Reader ℕ) → (line : List ℕ) → is_comment line ≡ true → step_line handle line ≡ None
comment_other handle [] h = refl
comment_other handle (c ∷ rest) h =
    let sign : c ≡ 35 = grind (arith, nat_tests) in
    rw sign refl

text_step : {Z S : Type 0} → (names : HashMap (String Z) ℕ S) → (now : ℕ) → (line : List ℕ) → (b : Bool) → is_comment line ≡ b → step_line (handle_in names) line ≡ step_in (command_of names now line)
text_step names now line true is = rw is (comment_other (handle_in names) line is)
text_step names now line false is =
    rw is (accepted_step (handle_in names) now line ∙ or_mistake (accepted (handle_in names) now line) (first_mistake (handle_in names) line))

step_of_line : {Z S : Type 0} → (names : HashMap (String Z) ℕ S) → (now : ℕ) → (line : List ℕ) → step_line (handle_in names) line ≡ step_in (command_of names now line)
step_of_line names now line = text_step names now line _ refl

-- what is read of a line as a change of a step is what its command changes, whatever the moment is
pub step_read : {Z S : Type 0} → {step : Option (ℕ × StepChange)} → (names : HashMap (String Z) ℕ S) → (line : List ℕ) → step ≡ step_line (handle_in names) line → (now : ℕ) → step ≡ step_in (command_of names now line)
step_read names line read now = read ∙ step_of_line names now line
