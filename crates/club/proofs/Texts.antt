-- What is printed of an answer that has words.
use Rattle.std.proofs.Common.{◌≡◌, ℕ, List, Some, Ok, Err, Result, refl}
use Rattle.refusals.specs.declared.Report.{Report}
use Rattle.club.specs.Texts.{answer_or_refusal, text_or_refused}

pub spoken_words : {T E : Type 0} (text : T → List ℕ) (report : E → Report) (r : Result T E) → answer_or_refusal (λ x. Some (text x)) Some report r ≡ Some (text_or_refused text report r)
spoken_words text report (Ok x) = refl
spoken_words text report (Err e) = refl
