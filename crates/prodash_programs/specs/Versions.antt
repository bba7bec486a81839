-- The version of the programs.
use Rattle.std.specs.Prelude.{ℕ, List, ◌++◌, codes}

-- the line of a program that is asked for its version
abbrev pub version_line : List ℕ → List ℕ
version_line program = program ++ codes " 0.1.0 (port of prodash 31.0.1)\n"
