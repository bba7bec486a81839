use Rattle.std.proofs.Common.{◌≡◌, ℕ, List, ◌∷◌, arith}
use Rattle.std.specs.Prelude.{None, ◌≢◌}
use Rattle.std.proofs.lemmas.Str.Pattern.{strip_prefix_char}
use Rattle.prodash_script.proofs.NamedItems.{no_name}
use Rattle.prodash_script.proofs.script.name_of.Goals as goal

pub returns-in_err-name : goal.returns-in_err-name
returns-in_err-name c =
    let is_none : c.strip_prefix.result ≡ None = cc in
    let cases = strip_prefix_char 64 c.args.word.now c.strip_prefix.result c.strip_prefix.ensures.cases (omega arith) in
    let differs : (rest : List ℕ) → c.args.word.now ≢ 64 ∷ rest = rw is_none at cases in
    let named = no_name c.args.word.now differs in
    cc
