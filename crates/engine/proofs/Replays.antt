-- One request more of a list.
use Rattle.std.proofs.Common.{◌≡◌, ℕ, ◌+◌, ◌-◌, ◌<◌, ◌≤◌, min, List, [], ◌∷◌, ◌++◌, map, length, get_or, take, drop, set, sym, refl, ap, ◌∙◌, subst, ⊎_elim, arith}
use Rattle.std.proofs.lemmas.List.{take_more, take_more_set, take_all, take_at, drop_at, drop_more, drop_all, drop-set-lt, length-take, length-drop, length-append, map_push, append_assoc, append-nil, nil_from_length, take-append-drop}
use Rattle.std.proofs.lemmas.Bool.{cases_lt}
use Rattle.ledger.proofs.Reclaims.{cons_parts}
use Rattle.ledger.specs.Ledger.{Limits, new_ledger}
use Rattle.ledger.specs.History.{call_made, Made}
use Rattle.versions.specs.Stores.{Store}
use Rattle.validation.specs.Stamps.{Stamps}
use Rattle.engine.specs.declared.engine.Engine.{Engine}
use Rattle.engine.specs.declared.replay.Request.{Request}
use Rattle.engine.specs.Fits.{Fits}
use Rattle.engine.specs.Steps.{LeadsLawfullyTo, GoesOn}
use Rattle.engine.specs.Replays.{beyond, onto, call_and_room, EachLeads, IsReplayed}
use Rattle.engine.proofs.Histories.{lawful_in}

beyond_push : (qs : List Request) (q : Request) (bs : List ℕ) → beyond (qs ++ (q ∷ [])) bs ≡ drop q.room (beyond qs bs)
beyond_push [] q bs = refl
beyond_push (p ∷ qs) q bs = beyond_push qs q (drop p.room bs)

-- a part that is as long as there is room, or as there are places
own_part : (n : ℕ) (new ys : List ℕ) → length new ≡ min n (length new + length ys) → (take n (new ++ ys) ≡ new) × (drop n (new ++ ys) ≡ ys)
own_part n new ys e = ⊎_elim (λ (lt : n < length new + length ys). (take_at new ys n (omega arith), drop_at new ys n (omega arith))) (λ (le : length new + length ys ≤ n).
    let none : ys ≡ [] = nil_from_length ys (omega arith) in
    rw (none, append-nil new) (take_all n new (omega arith), drop_all n new (omega arith))) (cases_lt n (length new + length ys))

-- a buffer filled leaves as many places
pub stays_within : (start k : ℕ) (cs new : List ℕ) → start + k ≤ length cs → length new ≡ length (take k (drop start cs)) → start + k ≤ length (take start cs ++ (new ++ drop k (drop start cs)))
stays_within start k cs new le long = omega (arith, length-append (take start cs) (new ++ drop k (drop start cs)), length-append new (drop k (drop start cs)), length-take start cs, length-take k (drop start cs), length-drop start cs)

-- the first i requests are done, and rest are the places not given to them
pub record IsReplayedUpTo {S V : Type 0} (m : S → Store) (p : V → Stamps) (n : Limits) (i start : ℕ) (qs rs : List Request) (bs cs : List ℕ) (e : Engine S V) : Type 0 where
  pub ms : List Made
  pub front : List ℕ
  pub rest : List ℕ
  pub starts : length front ≡ start
  pub is_cs : cs ≡ front ++ rest
  pub left : drop i rs ≡ drop i qs
  pub same_calls : map call_and_room (take i rs) ≡ map call_and_room (take i qs)
  -- the front is all that the requests done take
  pub past : beyond (take i qs) bs ≡ rest
  pub past_front : (ys : List ℕ) → length ys ≡ length rest → beyond (take i qs) (front ++ ys) ≡ ys
  -- the history so far, whatever comes
  pub carry : (qs' rs' : List Request) (ys : List ℕ) → length ys ≡ length rest → onto [] (take i qs ++ qs') (take i rs ++ rs') bs (front ++ ys) ≡ onto ms qs' rs' rest ys
  pub whole : LeadsLawfullyTo m p n ms e
  pub beginnings : EachLeads m p n ms

module _ {S V : Type 0} (m : S → Store) (p : V → Stamps) (n : Limits) where
  pub replayed_none : (qs : List Request) (bs : List ℕ) (e : Engine S V) → Fits (new_ledger n) e.table (m e.store) (p e.validator) → IsReplayedUpTo m p n 0 0 qs qs bs bs e
  replayed_none qs bs e f =
      let now : LeadsLawfullyTo m p n [] e = ((tt, f), lawful_in n [] tt f) in
      record {
        ms = [];
        front = [];
        rest = bs;
        starts = refl;
        is_cs = refl;
        left = refl;
        same_calls = refl;
        past = refl;
        past_front = λ ys same. refl;
        carry = λ qs' rs' ys same. refl;
        whole = now;
        beginnings = (e, now);
      }

  -- the i-th request, r after it was made, with new left in its buffer
  pub replayed_more : (i start end : ℕ) (qs rs : List Request) (bs cs new cs' : List ℕ) (e e' : Engine S V) (d r : Request) → IsReplayedUpTo m p n i start qs rs bs cs e → i < length qs → length rs ≡ length qs → call_and_room r ≡ call_and_room (get_or rs i d) → end ≡ start + min r.room (length cs - start) → length new ≡ length (take (end - start) (drop start cs)) → cs' ≡ take start cs ++ (new ++ drop (end - start) (drop start cs)) → GoesOn m p e e' r.call (take (end - start) (drop start cs)) r.answer new → IsReplayedUpTo m p n (i + 1) end qs (set rs i r) bs cs' e'
  replayed_more i start end qs rs bs cs new cs' e e' d r g lt len calls is-end as_long is-new goes =
      let q = get_or qs i d in
      let two = cons_parts (get_or rs i d) q (drop (i + 1) rs) (drop (i + 1) qs) (sym (drop_more rs i d (omega arith)) ∙ g.left ∙ drop_more qs i d lt) in
      let same-both : call_and_room r ≡ call_and_room q = calls ∙ ap call_and_room two.0 in
      let same-call : r.call ≡ q.call = ap (λ w. w.0) same-both in
      let same-room : r.room ≡ q.room = ap (λ w. w.1) same-both in
      let before = take_more qs i d lt in
      let after = take_more_set rs i r (omega arith) in
      let k = end - start in
      let dropped : drop start cs ≡ g.rest = ap (drop start) g.is_cs ∙ drop_at g.front g.rest start g.starts in
      let total : length cs ≡ start + length g.rest = ap length g.is_cs ∙ length-append g.front g.rest ∙ ap (λ z. z + length g.rest) g.starts in
      let long : length new ≡ k = as_long ∙ length-take k (drop start cs) ∙ omega (arith, length-drop start cs) in
      let parts = own_part q.room (take k g.rest) (drop k g.rest) (omega (arith, length-take k g.rest, length-drop k g.rest)) in
      let is-rest = take-append-drop k g.rest in
      let given : take k (drop start cs) ≡ take q.room g.rest = ap (take k) dropped ∙ sym parts.0 ∙ ap (take q.room) is-rest in
      let more : drop q.room g.rest ≡ drop k g.rest = ap (drop q.room) (sym is-rest) ∙ parts.1 in
      let own : (ys : List ℕ) → length ys ≡ length (drop k g.rest) → (take q.room (new ++ ys) ≡ new) × (drop q.room (new ++ ys) ≡ ys) = λ ys same. own_part q.room new ys (omega (arith, length-drop k g.rest)) in
      let long_rest : (ys : List ℕ) → length ys ≡ length (drop k g.rest) → length (new ++ ys) ≡ length g.rest = λ ys same. length-append new ys ∙ omega (arith, length-drop k g.rest) in
      let now = goes n g.ms g.whole.0 in
      record {
        ms = call_made r.call (take k (drop start cs)) r.answer new ∷ g.ms;
        front = g.front ++ new;
        rest = drop k g.rest;
        starts = length-append g.front new ∙ omega (arith, g.starts);
        is_cs = is-new ∙ ap (λ xs. xs ++ (new ++ drop k (drop start cs))) (ap (take start) g.is_cs ∙ take_at g.front g.rest start g.starts) ∙ ap (λ xs. g.front ++ (new ++ drop k xs)) dropped ∙ sym (append_assoc g.front new (drop k g.rest));
        left = drop-set-lt (i + 1) rs i r (omega arith) ∙ two.1;
        same_calls = ap (map call_and_room) after ∙ map_push call_and_room (take i rs) r ∙ ap (λ ws. ws ++ (call_and_room r ∷ [])) g.same_calls ∙ ap (λ w. map call_and_room (take i qs) ++ (w ∷ [])) same-both ∙ sym (map_push call_and_room (take i qs) q) ∙ ap (map call_and_room) (sym before);
        past = ap (λ xs. beyond xs bs) before ∙ beyond_push (take i qs) q bs ∙ ap (drop q.room) g.past ∙ more;
        past_front = λ ys same. ap (λ xs. beyond xs ((g.front ++ new) ++ ys)) before ∙ beyond_push (take i qs) q ((g.front ++ new) ++ ys) ∙ ap (λ xs. drop q.room (beyond (take i qs) xs)) (append_assoc g.front new ys) ∙ ap (drop q.room) (g.past_front (new ++ ys) (long_rest ys same)) ∙ (own ys same).1;
        carry = λ qs' rs' ys same.
            ap (λ xs. onto [] (xs ++ qs') (take (i + 1) (set rs i r) ++ rs') bs ((g.front ++ new) ++ ys)) before
            ∙ ap (λ xs. onto [] ((take i qs ++ (q ∷ [])) ++ qs') (xs ++ rs') bs ((g.front ++ new) ++ ys)) after
            ∙ ap (λ xs. onto [] xs ((take i rs ++ (r ∷ [])) ++ rs') bs ((g.front ++ new) ++ ys)) (append_assoc (take i qs) (q ∷ []) qs')
            ∙ ap (λ xs. onto [] (take i qs ++ (q ∷ qs')) xs bs ((g.front ++ new) ++ ys)) (append_assoc (take i rs) (r ∷ []) rs')
            ∙ ap (λ xs. onto [] (take i qs ++ (q ∷ qs')) (take i rs ++ (r ∷ rs')) bs xs) (append_assoc g.front new ys)
            ∙ g.carry (q ∷ qs') (r ∷ rs') (new ++ ys) (long_rest ys same)
            ∙ ap (λ xs. onto (call_made q.call (take q.room g.rest) r.answer (take q.room (new ++ ys)) ∷ g.ms) qs' rs' xs (drop q.room (new ++ ys))) more
            ∙ ap (λ xs. onto (call_made q.call (take q.room g.rest) r.answer (take q.room (new ++ ys)) ∷ g.ms) qs' rs' (drop k g.rest) xs) (own ys same).1
            ∙ ap (λ xs. onto (call_made q.call (take q.room g.rest) r.answer xs ∷ g.ms) qs' rs' (drop k g.rest) ys) (own ys same).0
            ∙ ap (λ xs. onto (call_made q.call xs r.answer new ∷ g.ms) qs' rs' (drop k g.rest) ys) (sym given)
            ∙ ap (λ x. onto (call_made x (take k (drop start cs)) r.answer new ∷ g.ms) qs' rs' (drop k g.rest) ys) (sym same-call);
        whole = now;
        beginnings = ((e', now), g.beginnings);
      }

  pub replayed_all : (i start : ℕ) (qs rs : List Request) (bs cs : List ℕ) (e : Engine S V) → IsReplayedUpTo m p n i start qs rs bs cs e → length qs ≤ i → length rs ≡ length qs → IsReplayed m p n qs rs bs cs e
  replayed_all i start qs rs bs cs e g le len =
      let all-qs = take_all i qs le in
      let all-rs = take_all i rs (omega arith) in
      let is : onto [] qs rs bs cs ≡ g.ms = ap (λ xs. onto [] xs rs bs cs) (sym (append-nil qs)) ∙ ap (λ xs. onto [] (qs ++ []) xs bs cs) (sym (append-nil rs)) ∙ ap (λ xs. onto [] (xs ++ []) (rs ++ []) bs cs) (sym all-qs) ∙ ap (λ xs. onto [] (take i qs ++ []) (xs ++ []) bs cs) (sym all-rs) ∙ ap (onto [] (take i qs ++ []) (take i rs ++ []) bs) g.is_cs ∙ g.carry [] [] g.rest refl in
      record {
        same_calls = ap (map call_and_room) (sym all-rs) ∙ g.same_calls ∙ ap (map call_and_room) all-qs;
        left_over = ap (λ xs. beyond xs cs) (sym all-qs) ∙ ap (beyond (take i qs)) g.is_cs ∙ g.past_front g.rest refl ∙ sym g.past ∙ ap (λ xs. beyond xs bs) all-qs;
        whole = subst (λ ms. LeadsLawfullyTo m p n ms e) (sym is) g.whole;
        beginnings = subst (λ ms. EachLeads m p n ms) (sym is) g.beginnings;
      }
