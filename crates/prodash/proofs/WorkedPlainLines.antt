-- Worked rows of plain lines, and of times as texts.
use Rattle.std.proofs.Common.{◌≡◌, ℕ, ◌*◌, ◌^◌, ◌-◌, List, [], ◌∷◌, codes, Option, Some, None, true, false, refl}
use Rattle.std.specs.Fmt.{digits}
use Rattle.prodash_base.specs.Rows.{RowProgress, Running}
use Rattle.prodash.specs.PlainLines.{below, reached_of, said_of, said_at_end, told_after, outcome_of}
use Rattle.prodash.specs.declared.render.plain.told.Told.{Told}

-- a progress that is running, without a unit
abbrev running : ℕ → Option ℕ → RowProgress
running step bound = record { counter = step; bound = bound; unit = None; phase = Running }

-- a task that was first seen at 6 seconds, at step 0, and of which nothing but that was said
abbrev app : Told
app = record { label = codes "build/app"; since = 6000000000; first = 0; said = None; finished = None }

pub begins : said_of None 6000000000 None ≡ Some (codes " started")
begins = refl

pub goes_on : said_of (Some app) 42000000000 (Some (running 3 (Some 4))) ≡ Some (codes " 3/4 75%, 12s left")
unfolding digits
goes_on = refl

pub without_bound : said_of (Some app) 42000000000 (Some (running 37 None)) ≡ Some (codes " 37")
unfolding digits
without_bound = refl

-- what was said isn't said again
pub unchanged : said_of (Some (record app { said = Some (reached_of (running 3 (Some 4))) })) 72000000000 (Some (running 3 (Some 4))) ≡ None
unchanged = refl

pub finishes : said_of (Some app) 9200000000 (Some (running 4 (Some 4))) ≡ Some (codes " 4/4 100%, done in 3.2s")
unfolding digits
finishes = refl

-- that a task has finished is said once, also when it is dropped
pub finished_once : said_at_end (Some (told_after (Some app) 9200000000 (codes "build/app") (Some (running 4 (Some 4))))) 10000000000 (Some (running 4 (Some 4))) ≡ None
finished_once = refl

pub stops : said_at_end (Some app) 18000000000 (Some (running 4 (Some 10))) ≡ Some (codes " 4/10 40%, stopped after 12s")
unfolding digits
stops = refl

pub ends_without_progress : said_at_end (Some app) 18000000000 None ≡ Some (codes " ended after 12s")
unfolding digits
ends_without_progress = refl

pub named_by_ancestors : below (Some app) None (codes "lib") ≡ codes "build/app/lib"
named_by_ancestors = refl

-- a task keeps the names of those above it that are gone
pub keeps_its_label : below None (Some app) (codes "app") ≡ codes "build/app"
keeps_its_label = refl

pub comes_out : outcome_of true (Some (running 4 (Some 4))) 3200000000 ≡ codes "4/4 in 3.2s"
unfolding digits
comes_out = refl

pub comes_out_without_progress : outcome_of true None 3200000000 ≡ codes "in 3.2s"
unfolding digits
comes_out_without_progress = refl

pub is_stopped : outcome_of false (Some (running 4 (Some 10))) 12000000000 ≡ codes "stopped at 4/10 after 12s"
unfolding digits
is_stopped = refl
