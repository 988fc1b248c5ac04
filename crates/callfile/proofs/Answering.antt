-- Records answered one after another, on a ledger and on an engine.
use Rattle.std.proofs.Common.{◌≡◌, ℕ, ◌+◌, List, [], ◌∷◌, ◌++◌, length, Some, None, Option, codes, refl, sym, ap, ◌∙◌, subst, append_assoc, arith}
use Rattle.ledger.specs.declared.Call.{Call}
use Rattle.ledger.specs.Ledger.{Ledger, Limits}
use Rattle.ledger.specs.History.{Made, after, IsTold}
use Rattle.versions.specs.Stores.{Store}
use Rattle.validation.specs.Stamps.{Stamps}
use Rattle.engine.specs.declared.engine.Engine.{Engine}
use Rattle.engine.specs.Parts.{FitsEngine}
use Rattle.engine.specs.Steps.{StaysIdle}
use Rattle.engine.proofs.Histories.{lawful_in}
use Rattle.callfile.specs.Lines.{line_text}
use Rattle.callfile.specs.Files.{record_answer, answer_from}
use Rattle.callfile.specs.Runs.{Answers}

-- On a ledger

-- the calls of one record are told, and lead to its ledger
told_one : (k : Limits) (ms : List Made) (n : ℕ) (b : List ℕ) (o : Option Call) → IsTold k ms
    → IsTold k ((record_answer n (after k ms) b o).calls ++ ms) × (after k ((record_answer n (after k ms) b o).calls ++ ms) ≡ (record_answer n (after k ms) b o).ledger)
told_one k ms n b None told = (told, refl)
told_one k ms n b (Some c) told = ((refl, refl, told), refl)

-- so are those of any records
told_all : (d : List ℕ → Option Call) (k : Limits) (ms : List Made) (n : ℕ) (b : List ℕ) (rs : List (List ℕ)) → IsTold k ms
    → IsTold k ((answer_from d n (after k ms) b rs).calls ++ ms) × (after k ((answer_from d n (after k ms) b rs).calls ++ ms) ≡ (answer_from d n (after k ms) b rs).ledger)
told_all d k ms n b [] told = (told, refl)
told_all d k ms n b (r ∷ rs) told =
    let a = record_answer n (after k ms) b (d r) in
    let one = told_one k ms n b (d r) told in
    let P : Ledger → Type 0 = λ l. IsTold k ((answer_from d (n + 1) l a.buffer rs).calls ++ (a.calls ++ ms)) × (after k ((answer_from d (n + 1) l a.buffer rs).calls ++ (a.calls ++ ms)) ≡ (answer_from d (n + 1) l a.buffer rs).ledger) in
    let rest = answer_from d (n + 1) a.ledger a.buffer rs in
    let Q : List Made → Type 0 = λ hs. IsTold k hs × (after k hs ≡ rest.ledger) in
    subst Q (sym (append_assoc rest.calls a.calls ms)) (subst P one.1 (told_all d k (a.calls ++ ms) (n + 1) a.buffer rs one.0))

-- some records, and then more
pub answers_of_both : (d : List ℕ → Option Call) (rs qs : List (List ℕ)) (n k : ℕ) → k ≡ n + length rs → (l : Ledger) (b : List ℕ)
    → let a = answer_from d n l b rs in
    let more = answer_from d k a.ledger a.buffer qs in
    let all = answer_from d n l b (rs ++ qs) in
    (all.buffer ≡ more.buffer) × (all.ledger ≡ more.ledger) × (all.lines ≡ a.lines ++ more.lines)
answers_of_both d [] qs n k h l b =
    let e : n ≡ k = omega (arith, h) in
    (ap (λ i. (answer_from d i l b qs).buffer) e, ap (λ i. (answer_from d i l b qs).ledger) e, ap (λ i. (answer_from d i l b qs).lines) e)
answers_of_both d (r ∷ rs) qs n k h l b =
    let a = record_answer n l b (d r) in
    let more = answers_of_both d rs qs (n + 1) k (omega (arith, h)) a.ledger a.buffer in
    let text = line_text n a.result a.buffer in
    (more.0, more.1, ap (λ (ls : List ℕ). text ++ (codes "\n" ++ ls)) more.2 ∙ sym (append_assoc text _ _))

-- On an engine

module _ {S V : Type 0} {d : List ℕ → Option Call} {m : S → Store} {p : V → Stamps} where
  answers_by : (e e' : Engine S V) (n : ℕ) (rs : List (List ℕ)) (b b' : List ℕ)
      → ((l : Ledger) → FitsEngine m p l e → b' ≡ (answer_from d n l b rs).buffer)
      → ((l : Ledger) → FitsEngine m p l e → FitsEngine m p (answer_from d n l b rs).ledger e')
      → StaysIdle e e'
      → Answers d m p e e' n rs b b'
  answers_by e e' n rs b b' buffer ledger idle = record {
    buffer = buffer;
    ledger = ledger;
    history = λ k ms led.
        let on = told_all d k ms n b rs led.0 in
        let fits = subst (λ l. FitsEngine m p l e') (sym on.1) (ledger (after k ms) led.1) in
        ((on.0, fits), lawful_in k ((answer_from d n (after k ms) b rs).calls ++ ms) on.0 fits);
    idle = idle;
  }

  -- nothing to answer
  pub answers_no_record : (e : Engine S V) (n : ℕ) (b : List ℕ) → Answers d m p e e n [] b b
  answers_no_record e n b = answers_by e e n [] b b (λ l f. refl) (λ l f. f) (λ z. (refl, refl, z))

  -- a malformed record
  pub answers_malformed : (e : Engine S V) (n : ℕ) (r : List ℕ) (b : List ℕ) → d r ≡ None → Answers d m p e e n (r ∷ []) b b
  answers_malformed e n r b none = answers_by e e n (r ∷ []) b b
      (λ l f. ap (λ o. (record_answer n l b o).buffer) (sym none))
      (λ l f. subst (λ o. FitsEngine m p (record_answer n l b o).ledger e) (sym none) f)
      (λ z. (refl, refl, z))

  -- some records, and then more
  pub answers_join : (e e' e'' : Engine S V) (n k : ℕ) (rs qs : List (List ℕ)) (b b' b'' : List ℕ) → k ≡ n + length rs
      → Answers d m p e e' n rs b b' → Answers d m p e' e'' k qs b' b'' → Answers d m p e e'' n (rs ++ qs) b b''
  answers_join e e' e'' n k rs qs b b' b'' h one two = answers_by e e'' n (rs ++ qs) b b''
      (λ l f. two.buffer (mid l) (one.ledger l f) ∙ ap (λ x. (answer_from d k (mid l) x qs).buffer) (one.buffer l f) ∙ sym (answers_of_both d rs qs n k h l b).0)
      (λ l f. subst (λ x. FitsEngine m p x e'') (ap (λ x. (answer_from d k (mid l) x qs).ledger) (one.buffer l f) ∙ sym (answers_of_both d rs qs n k h l b).1) (two.ledger (mid l) (one.ledger l f)))
      (λ z.
      let first = one.idle z in
      let then = two.idle first.2 in
      (then.0 ∙ first.0, then.1 ∙ first.1, then.2))
    where
      mid : Ledger → Ledger
      mid l = (answer_from d n l b rs).ledger
