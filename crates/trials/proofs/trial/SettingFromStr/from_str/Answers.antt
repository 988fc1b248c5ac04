use Rattle.std.proofs.Common.{[], ◌∷◌}
use Rattle.trials.proofs.Words.{next_word, fails_here, fails_behind, fails}
use Rattle.trials.proofs.trial.SettingFromStr.from_str.Goals as goal

pub returns : goal.returns
returns c = (
  c.split_whitespace-words.result,
  (
    c.split_whitespace-words.ensures.rest,
    next_word 16 c.in_ok-keys.keys _ _ _ _ _ (λ _ r. r.0) c.next.ensures.steps c.in_ok-keys.ensures.ok
        (next_word 64 c.in_ok-cells.cells _ _ _ _ _ (λ _ r. r.0) c.next-2.ensures.steps c.in_ok-cells.ensures.ok
        (next_word 16 c.in_ok-grain.grain _ _ _ _ _ (λ _ r. r.0) c.next-3.ensures.steps c.in_ok-grain.ensures.ok
        (next_word 32 c.in_ok-last.last _ _ _ _ _ (λ _ r. r.0) c.next-4.ensures.steps c.in_ok-last.ensures.ok
        (next_word 64 c.in_ok-places.places _ _ _ _ _ (λ _ r. r.0) c.next-5.ensures.steps c.in_ok-places.ensures.ok tt)))),
  ),
)

pub returns-in_err-keys : goal.returns-in_err-keys
returns-in_err-keys c =
    fails c.args.text.now c.in_err-keys.field-0.0 c.from_residual.result c.from_residual.ensures.1 (
      c.split_whitespace-words.result,
      (
        c.split_whitespace-words.ensures.rest,
        fails_here 16 (64 ∷ 16 ∷ 32 ∷ 64 ∷ []) _ _ _ _ _ (λ _ _ r. r.0) c.next.ensures.steps c.in_err-keys.ensures.err,
      ),
    )

pub returns-in_err-cells : goal.returns-in_err-cells
returns-in_err-cells c =
    fails c.args.text.now c.in_err-cells.field-0.0 c.from_residual-in_err-cells.result c.from_residual-in_err-cells.ensures.1 (
      c.split_whitespace-words.result,
      (
        c.split_whitespace-words.ensures.rest,
        fails_behind 16 (64 ∷ 16 ∷ 32 ∷ 64 ∷ []) _ _ _ _ _ c.next.ensures.steps c.in_ok-keys.ensures.ok
            (fails_here 64 (16 ∷ 32 ∷ 64 ∷ []) _ _ _ _ _ (λ _ _ r. r.0) c.next-2.ensures.steps c.in_err-cells.ensures.err),
      ),
    )

pub returns-in_err-grain : goal.returns-in_err-grain
returns-in_err-grain c =
    fails c.args.text.now c.in_err-grain.field-0.0 c.from_residual-in_err-grain.result c.from_residual-in_err-grain.ensures.1 (
      c.split_whitespace-words.result,
      (
        c.split_whitespace-words.ensures.rest,
        fails_behind 16 (64 ∷ 16 ∷ 32 ∷ 64 ∷ []) _ _ _ _ _ c.next.ensures.steps c.in_ok-keys.ensures.ok
            (fails_behind 64 (16 ∷ 32 ∷ 64 ∷ []) _ _ _ _ _ c.next-2.ensures.steps c.in_ok-cells.ensures.ok
            (fails_here 16 (32 ∷ 64 ∷ []) _ _ _ _ _ (λ _ _ r. r.0) c.next-3.ensures.steps c.in_err-grain.ensures.err)),
      ),
    )

pub returns-in_err-last : goal.returns-in_err-last
returns-in_err-last c =
    fails c.args.text.now c.in_err-last.field-0.0 c.from_residual-in_err-last.result c.from_residual-in_err-last.ensures.1 (
      c.split_whitespace-words.result,
      (
        c.split_whitespace-words.ensures.rest,
        fails_behind 16 (64 ∷ 16 ∷ 32 ∷ 64 ∷ []) _ _ _ _ _ c.next.ensures.steps c.in_ok-keys.ensures.ok
            (fails_behind 64 (16 ∷ 32 ∷ 64 ∷ []) _ _ _ _ _ c.next-2.ensures.steps c.in_ok-cells.ensures.ok
            (fails_behind 16 (32 ∷ 64 ∷ []) _ _ _ _ _ c.next-3.ensures.steps c.in_ok-grain.ensures.ok
            (fails_here 32 (64 ∷ []) _ _ _ _ _ (λ _ _ r. r.0) c.next-4.ensures.steps c.in_err-last.ensures.err))),
      ),
    )

pub returns-in_err-places : goal.returns-in_err-places
returns-in_err-places c =
    fails c.args.text.now c.in_err-places.field-0.0 c.from_residual-in_err-places.result c.from_residual-in_err-places.ensures.1 (
      c.split_whitespace-words.result,
      (
        c.split_whitespace-words.ensures.rest,
        fails_behind 16 (64 ∷ 16 ∷ 32 ∷ 64 ∷ []) _ _ _ _ _ c.next.ensures.steps c.in_ok-keys.ensures.ok
            (fails_behind 64 (16 ∷ 32 ∷ 64 ∷ []) _ _ _ _ _ c.next-2.ensures.steps c.in_ok-cells.ensures.ok
            (fails_behind 16 (32 ∷ 64 ∷ []) _ _ _ _ _ c.next-3.ensures.steps c.in_ok-grain.ensures.ok
            (fails_behind 32 (64 ∷ []) _ _ _ _ _ c.next-4.ensures.steps c.in_ok-last.ensures.ok
            (fails_here 64 [] _ _ _ _ _ (λ _ _ r. r.0) c.next-5.ensures.steps c.in_err-places.ensures.err)))),
      ),
    )
