use Rattle.std.proofs.Common.{◌≡◌, ◌++◌, rules, sym}
use Rattle.std.specs.Char.{encode_utf8}
use Rattle.prodash_script.proofs.SingleCharacters.{alone, several}
use Rattle.prodash_script.proofs.dashboard_line.only_char.Goals as goal

pub returns-in-Some : goal.returns-in-Some
returns-in-Some c =
    let first : c.args.text.now ≡ encode_utf8 c.in_ok-c.c ++ c.next.new.self.rest.now = search rules in
    sym (several c.args.text.now c.next.new.self.rest.now c.next-2.new.self.rest.now c.in_ok-c.c c.in-Some.field-0 c.utf8.text first c.in-Some.ensures.steps.0)

pub returns-in-None : goal.returns-in-None
returns-in-None c =
    let first : c.args.text.now ≡ encode_utf8 c.in_ok-c.c ++ c.next.new.self.rest.now = search rules in
    sym (alone c.args.text.now c.next.new.self.rest.now c.in_ok-c.c c.utf8.text first c.in-None.ensures.steps.0.0)
