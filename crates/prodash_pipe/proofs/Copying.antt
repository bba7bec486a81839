-- What a copy has read and written so far.
use Rattle.std.proofs.Common.{◌≡◌, ℕ, List, [], ◌++◌, Option, Result, Ok, Err, refl, sym, ap, ◌∙◌, append_assoc, append-nil, take, drop, take-append-drop, subst, length, ◌-◌, arith, length-drop}
use Rattle.std.proofs.lemmas.List.{take_all}
use Rattle.std.proofs.KnownBytes.{Appends-kept, Appends-nil, Appends-trans, Consumes-kept, Consumes-nil, Consumes-trans}
use Rattle.std.specs.Result.{IsErrAnd, MatchResult}
use Rattle.std.specs.Io.KnownBytes.{Appends, Consumes, IsAtEnd, Keeps}
use Rattle.prodash_pipe.specs.Copies.{Copies, MayLose}
use Rattle.prodash_pipe.specs.plumbing.Blocks.{IsOutput, Passes}
use Rattle.prodash_pipe.specs.declared.failure.Failure.{Failure}
use Rattle.prodash_pipe.specs.declared.failure.Failure.TheVariants.{Input, Output}
use Rattle.prodash_pipe.specs.Counts.{Counts, MeterOf}
use Rattle.prodash_pipe.proofs.Counting.{counts_both, counts_none}

-- a beginning of a block is written and counted
pub record HasPassed (block rest : List ℕ) (held held' : Option (List ℕ)) (m m' : MeterOf) : Type 0 where
  pub done : List ℕ
  pub split : block ≡ done ++ rest
  pub writes : Appends held held' done
  pub counts : Counts done m m'

-- nothing is written yet
pub begins_block : (block : List ℕ) (held : Option (List ℕ)) (m : MeterOf) → HasPassed block block held held m m
begins_block block held m = record { done = []; split = refl; writes = Appends-nil held; counts = counts_none m }

module _ {block rest : List ℕ} {held held' : Option (List ℕ)} {m m' : MeterOf} (sofar : HasPassed block rest held held' m m') where
  -- the writer takes n bytes
  pub passes_part : (n : ℕ) (held'' : Option (List ℕ)) (m'' : MeterOf) → Appends held' held'' (take n rest) → Counts (take n rest) m' m'' → HasPassed block (take (length rest - n) (drop n rest)) held held'' m m''
  passes_part n held'' m'' writes counts = record {
    done = sofar.done ++ take n rest;
    split = sofar.split ∙ ap (λ it. sofar.done ++ it) (sym (take-append-drop n rest) ∙ ap (λ it. take n rest ++ it) (sym left)) ∙ sym (append_assoc sofar.done (take n rest) _);
    writes = Appends-trans held held' held'' sofar.done (take n rest) sofar.writes writes;
    counts = counts_both m m' m'' sofar.done (take n rest) sofar.counts counts;
  }
    where
      left : take (length rest - n) (drop n rest) ≡ drop n rest
      left = take_all (length rest - n) (drop n rest) (omega (arith, length-drop n rest))

  -- the writer takes none
  pub passes_none : (held'' : Option (List ℕ)) → Keeps held' held'' → HasPassed block rest held held'' m m'
  passes_none held'' keeps = record { done = sofar.done; split = sofar.split; writes = Appends-kept held held' held'' sofar.done sofar.writes keeps; counts = sofar.counts }

-- all that was read is written and counted
pub record HasCopied (left left' held held' : Option (List ℕ)) (m m' : MeterOf) : Type 0 where
  pub done : List ℕ
  pub reads : Consumes left left' done
  pub writes : Appends held held' done
  pub counts : Counts done m m'

-- nothing is read yet
pub begins_copy : (left held : Option (List ℕ)) (m : MeterOf) → HasCopied left left held held m m
begins_copy left held m = record { done = []; reads = Consumes-nil left; writes = Appends-nil held; counts = counts_none m }

module _ {left left' held held' : Option (List ℕ)} {m m' : MeterOf} (sofar : HasCopied left left' held held' m m') where
  -- a block is read, and written whole
  pub copies_block : {X : Type 0} (x : X) (block : List ℕ) (left'' held'' : Option (List ℕ)) (m'' : MeterOf) → Consumes left' left'' block → Passes block (Ok x) held' held'' m' m'' → HasCopied left left'' held held'' m m''
  copies_block x block left'' held'' m'' reads passed =
      let whole : block ≡ passed.written = passed.whole ∙ ap (λ it. passed.written ++ it) passed.loses ∙ append-nil passed.written in
      record {
        done = sofar.done ++ passed.written;
        reads = Consumes-trans left left' left'' sofar.done passed.written sofar.reads (subst (Consumes left' left'') whole reads);
        writes = Appends-trans held held' held'' sofar.done passed.written sofar.writes passed.writes;
        counts = counts_both m m' m'' sofar.done passed.written sofar.counts passed.counts;
      }

  -- nothing is read
  pub copies_none : (left'' : Option (List ℕ)) → Keeps left' left'' → HasCopied left left'' held held' m m'
  copies_none left'' keeps = record { done = sofar.done; reads = Consumes-kept left left' left'' sofar.done sofar.reads keeps; writes = sofar.writes; counts = sofar.counts }

  -- a block is read, and a write failed behind a beginning of it
  pub copies_beginning : {X : Type 0} (failed result : Result X Failure) (block : List ℕ) (left'' held'' : Option (List ℕ)) (m'' : MeterOf) → Consumes left' left'' block → Passes block failed held' held'' m' m'' → IsErrAnd result (λ failure. IsErrAnd failed (λ it. it ≡ failure)) → Copies result left left'' held held'' m m''
  copies_beginning {X} failed result block left'' held'' m'' reads passed same = record {
    written = sofar.done ++ passed.written;
    lost = passed.lost;
    reads = subst (Consumes left left'') (ap (λ it. sofar.done ++ it) passed.whole ∙ sym (append_assoc sofar.done passed.written passed.lost)) (Consumes-trans left left' left'' sofar.done block sofar.reads reads);
    writes = Appends-trans held held' held'' sofar.done passed.written sofar.writes passed.writes;
    counts = counts_both m m' m'' sofar.done passed.written sofar.counts passed.counts;
    ends = ends_by failed result same passed.loses;
  }
    where
      ends_by : (failed result : Result X Failure) → IsErrAnd result (λ failure. IsErrAnd failed (λ it. it ≡ failure)) → MatchResult failed (λ _. passed.lost ≡ []) IsOutput → MatchResult result (λ _. (passed.lost ≡ []) × IsAtEnd left'') (λ failure. MayLose failure passed.lost)
      ends_by failed (Ok x) same loses = absurd same
      ends_by (Ok x) (Err failure) same loses = absurd same
      ends_by (Err (Input error)) (Err failure) same loses = absurd loses
      ends_by (Err (Output error)) (Err failure) same loses = subst (λ it. MayLose it passed.lost) same tt
