-- Two desks of which one ledger tells answer alike.
use Rattle.ledger.specs.History.{after_more}
use Rattle.std.proofs.Common.{◌≡◌, ℕ, Result, Option, sym, ap, ◌∙◌, subst}
use Rattle.versions.specs.Stores.{Store}
use Rattle.validation.specs.Stamps.{Stamps}
use Rattle.answer_lines.specs.declared.LineFault.{LineFault}
use Rattle.club.specs.declared.desk.Desk.{Desk}
use Rattle.club.specs.declared.event.Event.{Event}
use Rattle.club.specs.declared.said.Said.{Said}
use Rattle.procedures.specs.Procedures.{Performs}
use Rattle.club.specs.Events.{engine_of, pending_of, answered}
use Rattle.club.specs.Afternoons.{AreAlike}

-- the same line is answered alike, and the desks are alike afterwards
pub answered_alike : {S V S' V' : Type 0} {m : S → Store} {p : V → Stamps} {m' : S' → Store} {p' : V' → Stamps} {d k : Desk S V} {d' k' : Desk S' V'} (number : ℕ) (e : Option Event) {r r' : Result Said LineFault} → AreAlike m p m' p' d d' → Performs m p (engine_of d) (engine_of k) (answered number (pending_of d) e) (r, pending_of k) → Performs m' p' (engine_of d') (engine_of k') (answered number (pending_of d') e) (r', pending_of k') → (r ≡ r') × AreAlike m p m' p' k k'
answered_alike {m' = m'} {p' = p'} {d = d} {d' = d'} {k' = k'} number e {r' = r'} alike one other =
    let l = alike.ledger in
    let also = subst (λ w. Performs m' p' (engine_of d') (engine_of k') (answered number w e) (r', pending_of k')) (sym alike.pending) other in
    let same = one.answer l alike.first ∙ sym (also.answer l alike.second) in
    (ap (λ z. z.0) same, record { ledger = after_more l (answered number (pending_of d) e l).calls; first = one.ledger l alike.first; second = also.ledger l alike.second; pending = ap (λ z. z.1) same })
