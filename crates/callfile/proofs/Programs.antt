-- What a run on an engine just made writes.
use Rattle.std.proofs.Common.{◌≡◌, ℕ, ◌+◌, ◌^◌, ◌<◌, List, ◌++◌, length, take, drop, replicate, Some, None, Option, IfSome, OnOk, OnErr, Result, refl, sym, ap, ◌∙◌, subst, take-append-drop}
use Rattle.std.specs.Io.{StartsWith}
use Rattle.std.specs.Io.KnownBytes.{Consumes}
use Rattle.std.proofs.Transfers.{starts_with_length}
use Rattle.std.proofs.lemmas.Result.{on_ok_weaker, on_err_weaker}
use Rattle.std.proofs.lemmas.List.{take-append-le}
use Rattle.ledger.specs.Ledger.{Ledger, new_ledger}
use Rattle.versions.specs.Stores.{Store}
use Rattle.validation.specs.Stamps.{Stamps}
use Rattle.engine.specs.declared.engine.Engine.{Engine}
use Rattle.engine.specs.Parts.{FitsEngine}
use Rattle.records.specs.Format.{decoded}
use Rattle.callfile.specs.declared.sizes.TheConstants.{PLACES}
use Rattle.callfile.specs.Files.{records_of, answer_from}
use Rattle.callfile.specs.Programs.{program_limits, AnswersAll, AnswersTaken, AnswersSome}
use Rattle.callfile.specs.Runs.{AnswersFile, Stops}
use Rattle.callfile.proofs.Answering.{answers_of_both}

-- the lines of the first records are a beginning of all
first_lines : (rs qs : List (List ℕ)) (l : Ledger) (b bs : List ℕ) → take (length qs) rs ≡ qs → StartsWith (answer_from decoded 1 l b qs).lines bs → StartsWith (answer_from decoded 1 l b rs).lines bs
first_lines rs qs l b bs first begun =
    let a = answer_from decoded 1 l b qs in
    let rest = drop (length qs) rs in
    let more = (answer_from decoded (1 + length qs) a.ledger a.buffer rest).lines in
    let all : (answer_from decoded 1 l b rs).lines ≡ a.lines ++ more = ap (λ x. (answer_from decoded 1 l b x).lines) (sym (take-append-drop (length qs) rs) ∙ ap (λ x. x ++ rest) first) ∙ (answers_of_both decoded qs rest 1 (1 + length qs) refl l b).2 in
    subst (λ x. StartsWith x bs) (sym all) (take-append-le (length bs) a.lines more (starts_with_length a.lines bs begun) ∙ begun)

-- what a program writes, however its run ends
pub record WritesLines {T E : Type 0} (result : Result T E) (left left' old new : Option (List ℕ)) : Type 0 where
  pub all : OnOk result (AnswersAll left old new)
  pub taken : OnOk result (AnswersTaken left left' old new)
  pub err : OnErr result (AnswersSome left old new)

pub writes : {S V : Type 0} (m : S → Store) (p : V → Stamps) (e e' : Engine S V) (b' : List ℕ) (left left' old new : Option (List ℕ)) {T E : Type 0} (result : Result T E) → FitsEngine m p (new_ledger program_limits) e
    → OnOk result (IfSome left (λ bytes. length bytes < 2 ^ 64 → AnswersFile decoded m p e e' (replicate PLACES 0) b' old new bytes))
    → OnOk result ((bytes : List ℕ) × Consumes left left' bytes × AnswersFile decoded m p e e' (replicate PLACES 0) b' old new bytes)
    → OnErr result (Stops decoded m p e e' 1 (replicate PLACES 0) b' left left' old new)
    → WritesLines result left left' old new
writes m p e e' b' left left' old new result fits file taken err = record {
  all = on_ok_weaker result (known left) file;
  taken = on_ok_weaker result (λ h. (h.0, h.1, h.2.lines l fits)) taken;
  err = on_err_weaker result (begun left) err;
}
  where
    l : Ledger
    l = new_ledger program_limits

    b : List ℕ
    b = replicate PLACES 0

    known : (xs : Option (List ℕ)) → IfSome xs (λ bytes. length bytes < 2 ^ 64 → AnswersFile decoded m p e e' b b' old new bytes) → AnswersAll xs old new
    known None h = tt
    known (Some bytes) h = λ few. (h few).lines l fits

    begun : (xs : Option (List ℕ)) → Stops decoded m p e e' 1 b b' xs left' old new → AnswersSome xs old new
    begun None stop = tt
    begun (Some bytes) stop =
        let some = stop.lines l fits in
        (some.0, some.1, first_lines (records_of bytes) stop.breaks.done l b some.0 stop.breaks.first some.2)
