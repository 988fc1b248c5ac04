-- What is shown, from the calls that were made.
use Rattle.std.proofs.Common.{◌≡◌, ℕ, zero, suc, ◌-◌, ◌==◌, Bool, true, false, List, [], ◌∷◌, ◌++◌, map, Some, None, Option, IfOk, Ok, Err, Result, refl, ap, ◌∙◌, append-nil}
use Rattle.std.specs.List.{range_with_len}
use Rattle.refusals.specs.Results.{result_map}
use Rattle.ledger.specs.declared.Kind.TheVariants.{Reader}
use Rattle.ledger.specs.declared.Fault.{Fault}
use Rattle.ledger.specs.declared.SummaryKind.{SummaryKind}
use Rattle.ledger.specs.declared.SummaryKind.TheVariants.{Sum, Smallest, NonZero}
use Rattle.ledger.specs.declared.Figure.{Figure}
use Rattle.ledger.specs.declared.KeyedValue.{KeyedValue}
use Rattle.ledger.specs.declared.Call.TheVariants.{Begin, Read, Total}
use Rattle.ledger.specs.declared.Done.TheVariants.{Began, Read as ReadDone, Total as TotalDone}
use Rattle.ledger.specs.Ledger.{Limits}
use Rattle.ledger.specs.Figures.{figure_of}
use Rattle.ledger.specs.History.{Made, Operation, Showing, as_figure, read_range, operations, stands_at, when, updater_in}
use Rattle.ledger.specs.Laws.{total_now}
use Rattle.ledger.specs.Serial.{Table, table, run, operations_of}
use Rattle.ledger.proofs.Readers.{moment, figure_moment, begin_now, no_updater, table_begun}
use Rattle.ledger.proofs.Stories.{run_push}
use Rattle.versions.specs.Stores.{Store}
use Rattle.validation.specs.Stamps.{Stamps}
use Rattle.engine.specs.declared.engine.Engine.{Engine}
use Rattle.engine.specs.Steps.{LeadsTo, Refines, RefinesUnlent}
use Rattle.engine.proofs.Histories.{goes_on}
use Rattle.club.specs.declared.said.TheConstants.{KEYS}
use Rattle.club.specs.declared.said.Figures.{Figures}
use Rattle.club.specs.declared.said.Said.{Said}
use Rattle.club.specs.declared.said.Said.TheVariants.{Figures as SaidFigures}
use Rattle.club.specs.Transactions.{no_values, sum_in, smallest_in, number_in}
use Rattle.club.specs.Moments.{club_in, figures_at, ShowsNow, ShowsOpening}

-- a read leaves the table as it was
run_read : (b : Bool) (xs : List Operation) (k n : ℕ) (how : Showing) (v : Table) → run (xs ++ when b (read_range k n how)) v ≡ run xs v
run_read true xs k n how v = run_push xs (read_range k n how) v
run_read false xs k n how v = ap (λ ys. run ys v) (append-nil xs)

-- and so does a total, at every tick
table_totalled : (ms : List Made) (h k n : ℕ) (s : SummaryKind) (f : Figure) (t : ℕ) → table (total_now h k n s f [] [] ∷ ms) t ≡ table ms t
table_totalled ms h k n s f zero = refl
table_totalled ms h k n s f (suc t) =
    ap (run (operations_of (stands_at ms (suc t)) (total_now h k n s f [] [] ∷ ms))) (table_totalled ms h k n s f t) ∙ go (stands_at ms (suc t)) (table ms t)
  where
    go : (o : Option ℕ) (v : Table) → run (operations_of o (total_now h k n s f [] [] ∷ ms)) v ≡ run (operations_of o ms) v
    go None v = refl
    go (Some g) v = run_read (h == g) (operations g ms) k n (as_figure s) v

-- what three totals come to
abbrev figures_from : Figure → Figure → Figure → Said
figures_from x y z = SaidFigures (record { sum = sum_in x; smallest = smallest_in y; played = number_in z })

told_same : {x x' y y' z z' : Figure} → x ≡ x' → y ≡ y' → z ≡ z' → figures_from x y z ≡ figures_from x' y' z'
told_same {x' = x'} {y = y} {y' = y'} {z = z} e f g = ap (λ q. figures_from q y z) e ∙ ap (λ q. figures_from x' q z) f ∙ ap (figures_from x' y') g

module _ {S V : Type 0} (m : S → Store) (p : V → Stamps) where
  -- what a reader that begins now is shown is so now
  pub opened_now : (e₀ e : Engine S V) (h : ℕ) (f : Table → Said) (s : Said) → RefinesUnlent m p e₀ e (Begin Reader) (Ok (Began h)) → ShowsOpening m p e h f s → ShowsNow m p e₀ f s
  opened_now e₀ e h f s begins shows n ms led =
      let begun = (goes_on m p e₀ e (Begin Reader) [] (Ok (Began h)) [] (begins []) n ms led).0 in
      shows n (begin_now h [] [] ∷ ms) begun (no_updater n ms h [] [] begun.0) ∙ ap f (table_begun n ms h [] [] begun.0)

  -- the same of figures, where no total was refused
  pub figures_now : (e₀ e : Engine S V) (h k n : ℕ) (r : Result Figures Fault) → RefinesUnlent m p e₀ e (Begin Reader) (Ok (Began h)) → IfOk r (λ x. ShowsOpening m p e h (figures_at k n) (SaidFigures x)) → IfOk (result_map SaidFigures r) (ShowsNow m p e₀ (figures_at k n))
  figures_now e₀ e h k n (Ok x) begins shows = opened_now e₀ e h (figures_at k n) (SaidFigures x) begins shows
  figures_now e₀ e h k n (Err fault) begins shows = tt

  pub show_opening : (e e' : Engine S V) (h : ℕ) (b : List ℕ) → Refines m p e e' (Read h 0 KEYS) no_values (Ok (ReadDone KEYS)) b → ShowsOpening m p e h club_in (Said.Values b)
  show_opening e e' h b reads n ms led reader = ap Said.Values (moment n ms h 0 KEYS no_values b (goes_on m p e e' (Read h 0 KEYS) no_values (Ok (ReadDone KEYS)) b reads n ms led).0.0 reader)

  module _ (h k n : ℕ) where
    -- a figure told is one of the table at the opening
    figure_opening : (e e' : Engine S V) (s : SummaryKind) (f : Figure) → RefinesUnlent m p e e' (Total h k n s) (Ok (TotalDone f)) → (l : Limits) (ms : List Made) → LeadsTo m p l ms e → updater_in h ms ≡ false
        → (f ≡ figure_of s k (map (table ms (h - 1)) (range_with_len k n))) × LeadsTo m p l (total_now h k n s f [] [] ∷ ms) e'
    figure_opening e e' s f told l ms led reader =
        let more = (goes_on m p e e' (Total h k n s) [] (Ok (TotalDone f)) [] (told []) l ms led).0 in
        (figure_moment l ms h k n s f [] [] more.0 reader, more)

    -- three totals are of one table
    pub figures_opening : (e e₁ e₂ e₃ : Engine S V) (sum : ℕ) (least : Option KeyedValue) (number : ℕ)
        → RefinesUnlent m p e e₁ (Total h k n Sum) (Ok (TotalDone (Figure.Sum sum)))
        → RefinesUnlent m p e₁ e₂ (Total h k n Smallest) (Ok (TotalDone (Figure.Smallest least)))
        → RefinesUnlent m p e₂ e₃ (Total h k n NonZero) (Ok (TotalDone (Figure.NonZero number)))
        → ShowsOpening m p e h (figures_at k n) (SaidFigures (record { sum = sum; smallest = least; played = number }))
    figures_opening e e₁ e₂ e₃ sum least number first second third l ms led reader =
        let ms₁ = total_now h k n Sum (Figure.Sum sum) [] [] ∷ ms in
        let ms₂ = total_now h k n Smallest (Figure.Smallest least) [] [] ∷ ms₁ in
        let x = figure_opening e e₁ Sum (Figure.Sum sum) first l ms led reader in
        let y = figure_opening e₁ e₂ Smallest (Figure.Smallest least) second l ms₁ x.1 reader in
        let z = figure_opening e₂ e₃ NonZero (Figure.NonZero number) third l ms₂ y.1 reader in
        let same₁ = table_totalled ms h k n Sum (Figure.Sum sum) (h - 1) in
        let same₂ = table_totalled ms₁ h k n Smallest (Figure.Smallest least) (h - 1) ∙ same₁ in
        told_same x.0 (y.0 ∙ ap (λ v. figure_of Smallest k (map v (range_with_len k n))) same₁) (z.0 ∙ ap (λ v. figure_of NonZero k (map v (range_with_len k n))) same₂)
