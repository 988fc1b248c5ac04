-- A list of calls on one new engine, each with its own buffer.
use Rattle.std.specs.Prelude.{◌≡◌, ℕ, List, [], ◌∷◌, map, take, drop}
use Rattle.ledger.specs.declared.Call.{Call}
use Rattle.ledger.specs.Ledger.{Limits}
use Rattle.ledger.specs.History.{call_made, Made}
use Rattle.versions.specs.Stores.{Store}
use Rattle.validation.specs.Stamps.{Stamps}
use Rattle.engine.specs.declared.engine.Engine.{Engine}
use Rattle.engine.specs.declared.replay.Request.{Request}
use Rattle.engine.specs.Steps.{LeadsLawfullyTo}

-- the buffers lie one after another: that of a request is the next places, as many as its room
abbrev pub beyond : List Request → List ℕ → List ℕ
beyond [] bs = bs
beyond (q ∷ qs) bs = beyond qs (drop q.room bs)

-- the requests qs with the buffers bs became rs and cs: the history of it, onto ms, the newest first
abbrev pub onto : List Made → List Request → List Request → List ℕ → List ℕ → List Made
onto ms [] rs bs cs = ms
onto ms (q ∷ qs) [] bs cs = ms
onto ms (q ∷ qs) (r ∷ rs) bs cs = onto (call_made q.call (take q.room bs) r.answer (take q.room cs) ∷ ms) qs rs (drop q.room bs) (drop q.room cs)

abbrev pub call_and_room : Request → Call × ℕ
call_and_room r = (r.call, r.room)

-- the history leads lawfully to some engine, and so does each of its beginnings
abbrev pub EachLeads : {S V : Type 0} → (S → Store) → (V → Stamps) → Limits → List Made → Type 0
EachLeads {S = S} {V = V} m p n [] = (e : Engine S V) × LeadsLawfullyTo m p n [] e
EachLeads {S = S} {V = V} m p n (x ∷ ms) = ((e : Engine S V) × LeadsLawfullyTo m p n (x ∷ ms) e) × EachLeads {S = S} {V = V} m p n ms

pub record IsReplayed {S V : Type 0} (m : S → Store) (p : V → Stamps) (n : Limits) (qs rs : List Request) (bs cs : List ℕ) (e : Engine S V) : Type 0 where
  pub same_calls : map call_and_room rs ≡ map call_and_room qs
  pub left_over : beyond qs cs ≡ beyond qs bs
  pub whole : LeadsLawfullyTo m p n (onto [] qs rs bs cs) e
  pub beginnings : EachLeads m p n (onto [] qs rs bs cs)
