use Rattle.std.proofs.Common.{◌≡◌, ◌++◌, encode_utf8_all, string_bytes, length}
use Rattle.prodash_base.specs.Appending.{IsPrefix}
use Rattle.prodash_core.specs.Prefixes.{branches}
use Rattle.prodash_core.proofs.render.tui.prefix.push_branches.Given as goal

-- what is written and the characters of the locations that are left are those of all locations
abbrev pub invariant-loop-location : goal.invariant-loop-location
invariant-loop-location l = record {
  ok : string_bytes l.text ++ encode_utf8_all (branches l.is_first l.is_orphan l.left)
      ≡ string_bytes l.initial.text
      ++ encode_utf8_all (branches l.initial.is_first l.is_orphan l.locations);
  kept : IsPrefix (string_bytes l.initial.text) (string_bytes l.text);
}

abbrev pub decreases-loop-location : goal.decreases-loop-location
decreases-loop-location l = length l.left
