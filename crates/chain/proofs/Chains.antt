-- A list of cells as a relation between a link and the indices from it on.
use Rattle.std.proofs.Common.{◌≡◌, ℕ, zero, suc, ◌<◌, ◌≤◌, Bool, true, false, cond, ltb, List, [], ◌∷◌, ◌++◌, map, length, set, Some, None, Option, sym, refl, ap, ◌∙◌, subst, ⊎_elim, arith}
use mathlib.Core.Path.{fun_ext}
use Rattle.std.proofs.lemmas.List.{length-set, get_or-set_same, get_or-set_other}
use Rattle.std.specs.Option.{ForSome}
use Rattle.std.proofs.lemmas.Grind.{common_steps}
use Rattle.std.proofs.lemmas.Bool.{false≢true, and_parts, and_from, ltb-true, lt-ltb, cases_Bool}
use Rattle.chain.specs.declared.cell.Cell.{Cell}
use Rattle.chain.specs.Links.{cell_at, cleared, walk, ends_within, list_from, Ends, times, HasNoRepeat, version_at, first_below, link_behind, ended_at, given_back}
use Rattle.chain.proofs.Tallies.{times_none, once_first, once_rest}

abbrev pub IsChain : List Cell → Option ℕ → List ℕ → Type 0
IsChain cells link [] = link ≡ None
IsChain cells link (i ∷ is) = (link ≡ Some i) × (i < length cells) × IsChain cells (cell_at cells i).next is

pub chain_from_walk : (cells : List Cell) (n : ℕ) (link : Option ℕ) → ends_within cells n link ≡ true → IsChain cells link (walk cells n link)
chain_from_walk cells n None e = refl
chain_from_walk cells zero (Some i) e = absurd (false≢true e)
chain_from_walk cells (suc n) (Some i) e =
    let both = and_parts (ltb i (length cells)) (ends_within cells n (cell_at cells i).next) e in
    (refl, ltb-true i (length cells) both.0, chain_from_walk cells n (cell_at cells i).next both.1)

-- a chain that is no longer than a walk is that walk
pub walk_from_chain : (cells : List Cell) (is : List ℕ) (n : ℕ) (link : Option ℕ) → IsChain cells link is → length is ≤ n → (ends_within cells n link ≡ true) × (walk cells n link ≡ is)
walk_from_chain cells [] n link c short = rw c (refl, refl)
walk_from_chain cells (i ∷ is) zero link c short = absurd (omega arith)
walk_from_chain cells (i ∷ is) (suc n) link c short =
    let rest = walk_from_chain cells is n (cell_at cells i).next c.2 (omega arith) in
    let low = lt-ltb i (length cells) c.1 in
    rw c.0 (and_from (ltb i (length cells)) (ends_within cells n (cell_at cells i).next) low rest.0, ap (λ (js : List ℕ). i ∷ js) rest.1)

length_walk : (cells : List Cell) (n : ℕ) (link : Option ℕ) → length (walk cells n link) ≤ n
length_walk cells n None = omega arith
length_walk cells zero (Some i) = omega arith
length_walk cells (suc n) (Some i) = omega (arith, length_walk cells n (cell_at cells i).next)

pub length_list : (cells : List Cell) (link : Option ℕ) → length (list_from cells link) ≤ length cells
length_list cells link = length_walk cells (length cells) link

-- one step of a walk that ends: what is left ends within the same bound
pub record StepsOn (cells : List Cell) (n i : ℕ) : Type 0 where
  pub low : i < length cells
  pub rest : ends_within cells n (cell_at cells i).next ≡ true
  pub list : walk cells n (Some i) ≡ i ∷ walk cells n (cell_at cells i).next

walk_step : (cells : List Cell) (n i : ℕ) → ends_within cells n (Some i) ≡ true → StepsOn cells n i
walk_step cells zero i e = absurd (false≢true e)
walk_step cells (suc n) i e =
    let next = (cell_at cells i).next in
    let both = and_parts (ltb i (length cells)) (ends_within cells n next) e in
    let more = walk_from_chain cells (walk cells n next) (suc n) next (chain_from_walk cells n next both.1) (omega (arith, length_walk cells n next)) in
    record { low = ltb-true i (length cells) both.0; rest = more.0; list = ap (λ (js : List ℕ). i ∷ js) (sym more.1) }

pub record ListStepsOn (cells : List Cell) (link : Option ℕ) (i : ℕ) : Type 0 where
  pub low : i < length cells
  pub rest : Ends cells (cell_at cells i).next
  pub list : list_from cells link ≡ i ∷ list_from cells (cell_at cells i).next

pub list_step : (cells : List Cell) (link : Option ℕ) (i : ℕ) → link ≡ Some i → Ends cells link → ListStepsOn cells link i
list_step cells link i is e =
    let s = walk_step cells (length cells) i (rw is at e) in
    record { low = s.low; rest = s.rest; list = rw is s.list }

-- every index of a chain is one of a cell
chain_low : (cells : List Cell) (link : Option ℕ) (is : List ℕ) (i : ℕ) → IsChain cells link is → 0 < times i is → i < length cells
chain_low cells link [] i c some = absurd (omega arith)
chain_low cells link (j ∷ js) i c some = grind (arith, common_steps, chain_low cells (cell_at cells j).next js i c.2)

pub chain_none : (cells : List Cell) (is : List ℕ) → IsChain cells None is → is ≡ []
chain_none cells [] c = refl
chain_none cells (i ∷ is) c = absurd (let l = c.0 in cc)

-- a chain does not see a change of a cell that it does not hold
pub chain_other : (cells : List Cell) (i : ℕ) (x : Cell) (link : Option ℕ) (is : List ℕ) → times i is ≡ 0 → IsChain cells link is → IsChain (set cells i x) link is
chain_other cells i x link [] none c = c
chain_other cells i x link (j ∷ js) none c =
    let apart = times_none i j js none in
    (c.0, grind (arith, common_steps), rw (get_or-set_other cells i j x (cleared None) apart.0) (chain_other cells i x (cell_at cells j).next js apart.1 c.2))

pub chain_push : (cells : List Cell) (i : ℕ) (x : Cell) (is : List ℕ) → i < length cells → times i is ≡ 0 → IsChain cells x.next is → IsChain (set cells i x) (Some i) (i ∷ is)
chain_push cells i x is low none c = (
  refl,
  rw (length-set cells i x) low,
  rw (get_or-set_same cells i x (cleared None) low) (chain_other cells i x x.next is none c),
)

-- the chain up to its first cell stamped below a tick, that cell included, and the chain behind that
abbrev pub upto : ℕ → List Cell → List ℕ → List ℕ
upto tick cells [] = []
upto tick cells (i ∷ is) = i ∷ cond (ltb (cell_at cells i).stamp tick) [] (upto tick cells is)

abbrev pub past_below : ℕ → List Cell → List ℕ → List ℕ
past_below tick cells [] = []
past_below tick cells (i ∷ is) = cond (ltb (cell_at cells i).stamp tick) is (past_below tick cells is)

pub upto_past_below : (tick : ℕ) (cells : List Cell) (is : List ℕ) → upto tick cells is ++ past_below tick cells is ≡ is
upto_past_below tick cells [] = refl
upto_past_below tick cells (i ∷ is) = grind (arith, common_steps, upto_past_below tick cells is)

pub first_stands : (tick : ℕ) (cells : List Cell) (is : List ℕ) (j : ℕ) → first_below tick cells is ≡ Some j → 0 < times j is
first_stands tick cells [] j found = grind (arith, common_steps)
first_stands tick cells (i ∷ is) j found = grind (arith, common_steps, first_stands tick cells is j)

pub first_low : (tick : ℕ) (cells : List Cell) (link : Option ℕ) (i : ℕ) → Ends cells link → first_below tick cells (list_from cells link) ≡ Some i → i < length cells
first_low tick cells link i e found =
    chain_low cells link (list_from cells link) i (chain_from_walk cells (length cells) link e) (first_stands tick cells (list_from cells link) i found)

pub first_inside : (tick : ℕ) (cells : List Cell) (link o : Option ℕ) → Ends cells link → o ≡ first_below tick cells (list_from cells link) → ForSome o (λ i. i < length cells)
first_inside tick cells link o e found = λ i is. first_low tick cells link i e (sym found ∙ is)

pub length_ended : (cells : List Cell) (o : Option ℕ) → length (ended_at cells o) ≡ length cells
length_ended cells None = refl
length_ended cells (Some i) = simp length-set

ended_other : (cells : List Cell) (o : Option ℕ) (j : ℕ) → (o ≡ Some j → ⊥) → cell_at (ended_at cells o) j ≡ cell_at cells j
ended_other cells None j apart = refl
ended_other cells (Some i) j apart = grind (arith, common_steps)

pub chain_ended_other : (cells : List Cell) (o : Option ℕ) (link : Option ℕ) (is : List ℕ) → ((i : ℕ) → o ≡ Some i → times i is ≡ 0) → IsChain cells link is → IsChain (ended_at cells o) link is
chain_ended_other cells None link is none c = c
chain_ended_other cells (Some i) link is none c = chain_other cells i _ link is (none i refl) c

pub chain_upto : (tick : ℕ) (cells : List Cell) (link : Option ℕ) (is : List ℕ) → HasNoRepeat is → IsChain cells link is → IsChain (ended_at cells (first_below tick cells is)) link (upto tick cells is)
chain_upto tick cells link [] once c = c
chain_upto tick cells link (i ∷ is) once c =
    let low = c.1 in
    ⊎_elim
    (λ (e : ltb (cell_at cells i).stamp tick ≡ true).
    rw e (c.0, rw length-set low, rw (get_or-set_same cells i _ (cleared None) low) refl))
    (λ (e : ltb (cell_at cells i).stamp tick ≡ false).
    let o = first_below tick cells is in
    let apart : first_below tick cells is ≡ Some i → ⊥ = λ f. omega (arith, first_stands tick cells is i f, once_first i is once) in
    let rest = chain_upto tick cells (cell_at cells i).next is (once_rest i is once) c.2 in
    subst (λ (b : Bool). IsChain (ended_at cells (cond b (Some i) o)) link (i ∷ cond b [] (upto tick cells is))) (sym e)
    (c.0, rw (length_ended cells o) low, rw (ended_other cells o i apart) rest))
    (cases_Bool (ltb (cell_at cells i).stamp tick))

pub chain_beyond : (tick : ℕ) (cells : List Cell) (link : Option ℕ) (is : List ℕ) → HasNoRepeat is → IsChain cells link is → IsChain (ended_at cells (first_below tick cells is)) (link_behind cells (first_below tick cells is)) (past_below tick cells is)
chain_beyond tick cells link [] once c = refl
chain_beyond tick cells link (i ∷ is) once c =
    ⊎_elim
    (λ (e : ltb (cell_at cells i).stamp tick ≡ true). rw e (chain_other cells i _ (cell_at cells i).next is (once_first i is once) c.2))
    (λ (e : ltb (cell_at cells i).stamp tick ≡ false). rw e (chain_beyond tick cells (cell_at cells i).next is (once_rest i is once) c.2))
    (cases_Bool (ltb (cell_at cells i).stamp tick))

-- versions do not see a change of a cell that is not theirs, nor the end of a list
pub versions_other : (cells : List Cell) (i : ℕ) (x : Cell) (is : List ℕ) → times i is ≡ 0 → map (version_at (set cells i x)) is ≡ map (version_at cells) is
versions_other cells i x [] none = refl
versions_other cells i x (j ∷ js) none = grind (arith, common_steps, versions_other cells i x js)

version_ended : (cells : List Cell) (o : Option ℕ) (j : ℕ) → version_at (ended_at cells o) j ≡ version_at cells j
version_ended cells None j = refl
version_ended cells (Some i) j = grind (arith, common_steps)

pub versions_ended : (cells : List Cell) (o : Option ℕ) (is : List ℕ) → map (version_at (ended_at cells o)) is ≡ map (version_at cells) is
versions_ended cells o is = let same : version_at (ended_at cells o) ≡ version_at cells = fun_ext (version_ended cells o) in rw same refl

-- a list does not see a change of a cell that it does not hold
list_other : (cells : List Cell) (i : ℕ) (x : Cell) (link : Option ℕ) → Ends cells link → times i (list_from cells link) ≡ 0 → Ends (set cells i x) link × (list_from (set cells i x) link ≡ list_from cells link)
list_other cells i x link e none =
    let old = chain_from_walk cells (length cells) link e in
    let short = length_walk cells (length cells) link in
    walk_from_chain (set cells i x) (list_from cells link) (length (set cells i x)) link (chain_other cells i x link (list_from cells link) none old) (simp length-set short)

-- the first cell of a list goes over to the front of the unused ones
pub record GivesBack (cells : List Cell) (link unused : Option ℕ) (i : ℕ) : Type 0 where
  pub low : i < length cells
  pub rest : Ends (set cells i (cleared unused)) (cell_at cells i).next
  pub once : HasNoRepeat (list_from (set cells i (cleared unused)) (cell_at cells i).next)
  pub long : length (list_from cells link) ≡ suc (length (list_from (set cells i (cleared unused)) (cell_at cells i).next))
  pub same : given_back (set cells i (cleared unused)) (list_from (set cells i (cleared unused)) (cell_at cells i).next) (Some i) ≡ given_back cells (list_from cells link) unused

pub gives : (cells : List Cell) (link unused : Option ℕ) (i : ℕ) → link ≡ Some i → Ends cells link → HasNoRepeat (list_from cells link) → GivesBack cells link unused i
gives cells link unused i is e once =
    let s = list_step cells link i is e in
    let next = (cell_at cells i).next in
    let once' : HasNoRepeat (i ∷ list_from cells next) = λ j. rw s.list at (once j) in
    let o = list_other cells i (cleared unused) next s.rest (once_first i (list_from cells next) once') in
    record {
      low = s.low;
      rest = o.0;
      once = λ j. rw o.1 (once_rest i (list_from cells next) once' j);
      long = omega (arith, ap length s.list, ap length o.1);
      same = ap (λ (js : List ℕ). given_back (set cells i (cleared unused)) js (Some i)) o.1 ∙ sym (ap (λ (js : List ℕ). given_back cells js unused) s.list);
    }

-- a walk passes a cell whose stamp is not below the tick
pub first_passes : (tick : ℕ) (cells : List Cell) (link : Option ℕ) (i : ℕ) → ListStepsOn cells link i → tick ≤ (cell_at cells i).stamp → first_below tick cells (list_from cells (cell_at cells i).next) ≡ first_below tick cells (list_from cells link)
first_passes tick cells link i s late =
    let here : first_below tick cells (i ∷ list_from cells (cell_at cells i).next) ≡ first_below tick cells (list_from cells (cell_at cells i).next) = grind (arith, common_steps) in
    sym here ∙ sym (ap (first_below tick cells) s.list)
