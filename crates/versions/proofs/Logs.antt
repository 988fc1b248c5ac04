-- A packed log: what it means, what a look-up in it finds, and one version more at its end.
use Rattle.std.proofs.Common.{◌≡◌, ℕ, zero, suc, ◌+◌, ◌<◌, ◌≤◌, Bool, true, false, cond, eqb, List, [], ◌∷◌, ◌++◌, length, get_or, take, fold, Some, None, Ok, sym, refl, ap, ◌∙◌, ⊎_elim, append_assoc, append-nil, length-append, add-one, arith, Result, Err, drop, length-drop, rules, Option}
use Rattle.std.specs.List.{AllByRecursion, AllWithin}
use Rattle.std.specs.Result.{is_ok, IsOk, OnOk, OnErr}
use Rattle.std.specs.Option.{option_map, unwrap_or}
use Rattle.std.proofs.lemmas.List.Sums.{fold_more, fold_push}
use Rattle.std.proofs.lemmas.List.Elements.{All-push}
use Rattle.std.proofs.lemmas.Bool.{cases_lt, eq-eqb, ne_eqb, eqb-true, lt-leb, cases_Bool, cases_eq, and_parts}
use Rattle.std.proofs.ByRecursion.{all_from_every}
use Rattle.std.proofs.lemmas.List.{take_all}
use Rattle.stamped.specs.declared.lookup.Moment.{Moment}
use Rattle.stamped.specs.Lookups.{takes, matches, last_position}
use Rattle.stamped.proofs.Lookups.{IsLast, last_at}
use Rattle.stamped.specs.Packing.{Packing, capacity}
use Rattle.stamped.specs.declared.TheConstants.{MAX_KEYS}
use Rattle.versions.specs.declared.store.TheConstants.{MAX_CELLS}
use Rattle.versions.specs.declared.store.Version.{Version}
use Rattle.versions.specs.declared.fault.StoreFault.{StoreFault}
use Rattle.versions.specs.declared.fault.StoreFault.TheVariants.{Full}
use Rattle.versions.specs.Stores.{Revision, AreFalling, IsLawfulStore, first_by, pair_of, newest, with_version, sum_below, sizes_check, add_answer, added}
use Rattle.versions.specs.Log.{revision_of, versions_with, log_versions, store_of_log, AreOfKeys, moment_answer, cleared_version}
use Rattle.versions.proofs.Lists.{sum_none, sum_one}
use Rattle.versions.proofs.Meanings.{store_same, set_up_limits, falls_more, add_full, add_fine, added_refused, added_done}

-- what a look-up finds

module _ (log : List Version) (k : ℕ) (moment : Moment) where
  abbrev of : Version → Bool
  of v = matches k moment v.key v.stamp

  hit : (n : ℕ) → n < length log → of (get_or log n cleared_version) ≡ true → first_by (takes moment) (log_versions (take (n + 1) log) k) ≡ revision_of (get_or log n cleared_version)
  hit n h is =
      let both = and_parts (eqb (get_or log n cleared_version).key k) (takes moment (get_or log n cleared_version).stamp) is in
      ap (first_by (takes moment)) (fold_more (versions_with k) [] log n cleared_version h) ∙ rw (both.0, both.1) refl

  miss : (n : ℕ) → n < length log → of (get_or log n cleared_version) ≡ false → first_by (takes moment) (log_versions (take (n + 1) log) k) ≡ first_by (takes moment) (log_versions (take n log) k)
  miss n h is =
      ap (first_by (takes moment)) (fold_more (versions_with k) [] log n cleared_version h)
      ∙ ⊎_elim
      (λ (y : eqb (get_or log n cleared_version).key k ≡ true). let late = rw y at is in rw (y, late) refl)
      (λ (y : eqb (get_or log n cleared_version).key k ≡ false). rw y refl)
      (cases_Bool (eqb (get_or log n cleared_version).key k))

  skipped : (i n : ℕ) → i ≤ n → n ≤ length log → AllWithin (λ v. of v ≡ false) log i n → first_by (takes moment) (log_versions (take n log) k) ≡ first_by (takes moment) (log_versions (take i log) k)
  skipped i zero low high every = let z : 0 ≡ i = omega arith in ap (λ (m : ℕ). first_by (takes moment) (log_versions (take m log) k)) z
  skipped i (suc n) low high every =
      ⊎_elim
      (λ (e : i ≡ suc n). ap (λ (m : ℕ). first_by (takes moment) (log_versions (take m log) k)) (sym e))
      (λ (e : i ≡ suc n → ⊥).
      let rest = skipped i n (omega (arith, e)) (omega arith) (λ j d a b. every j d a (omega arith)) in
      let here = miss n (omega arith) (every n cleared_version (omega (arith, e)) (omega arith)) in
      ap (λ (m : ℕ). first_by (takes moment) (log_versions (take m log) k)) (sym (add-one n)) ∙ here ∙ rest)
      (cases_eq i (suc n))

  whole : first_by (takes moment) (log_versions (take (length log) log) k) ≡ first_by (takes moment) (log_versions log k)
  whole = ap (λ (l : List Version). first_by (takes moment) (log_versions l k)) (take_all (length log) log (omega arith))

  module _ (keys cells : ℕ) (known : k < keys) where
    found_last : (o : Option ℕ) (r : ℕ × ℕ) → IsLast of log o → r ≡ unwrap_or (option_map (λ i. ((get_or log i cleared_version).stamp, (get_or log i cleared_version).value)) o) (0, 0) → Ok r ≡ moment_answer (store_of_log keys cells log) k moment
    found_last (Some i) r last is =
        let off = lt-leb keys k known in
        let e = is ∙ ap pair_of (sym (sym whole ∙ skipped (i + 1) (length log) (omega arith) (omega arith) last.2 ∙ hit i last.0 (last.1 cleared_version))) in
        rw off (ap (λ (v : ℕ × ℕ). Ok v) e)
    found_last None r none is =
        let off = lt-leb keys k known in
        let e = is ∙ ap pair_of (sym (sym whole ∙ skipped 0 (length log) (omega arith) (omega arith) none)) in
        rw off (ap (λ (v : ℕ × ℕ). Ok v) e)

    pub found_read : (o : Option ℕ) (r : ℕ × ℕ) → o ≡ last_position of log → r ≡ unwrap_or (option_map (λ i. ((get_or log i cleared_version).stamp, (get_or log i cleared_version).value)) o) (0, 0) → Ok r ≡ moment_answer (store_of_log keys cells log) k moment
    found_read o r found is = found_last o r (rw found (last_at of log)) is

-- the first record of a log is the oldest version of its key

versions_with_on : (k : ℕ) (vs : List Revision) (x : Version) → versions_with k vs x ≡ versions_with k [] x ++ vs
versions_with_on k vs x = ⊎_elim (λ e. rw e refl) (λ e. rw e refl) (cases_Bool (eqb x.key k))

versions_on : (k : ℕ) (xs : List Version) (vs : List Revision) → fold (versions_with k) vs xs ≡ log_versions xs k ++ vs
versions_on k [] vs = refl
versions_on k (x ∷ xs) vs =
    versions_on k xs (versions_with k vs x)
    ∙ ap (λ (r : List Revision). log_versions xs k ++ r) (versions_with_on k vs x)
    ∙ sym (append_assoc (log_versions xs k) (versions_with k [] x) vs)
    ∙ ap (λ (r : List Revision). r ++ vs) (sym (versions_on k xs (versions_with k [] x)))

pub oldest_same : (k : ℕ) (x : Version) (xs : List Version) → x.key ≡ k → log_versions (x ∷ xs) k ≡ log_versions xs k ++ revision_of x ∷ []
oldest_same k x xs q = let e = eq-eqb x.key k q in versions_on k xs (versions_with k [] x) ∙ rw e refl

pub oldest_other : (k : ℕ) (x : Version) (xs : List Version) → (x.key ≡ k → ⊥) → log_versions (x ∷ xs) k ≡ log_versions xs k
oldest_other k x xs ne = let e = ne_eqb x.key k ne in versions_on k xs (versions_with k [] x) ∙ rw e (append-nil (log_versions xs k))

-- how many versions the log has, key by key

abbrev pub EachIsOfKeys : ℕ → List Version → Type 0
EachIsOfKeys keys log = AllByRecursion (λ v. v.key < keys) log

pub each_known : (keys : ℕ) (log : List Version) → AreOfKeys keys log → EachIsOfKeys keys log
each_known keys log known = all_from_every (λ v. v.key < keys) log (λ k d low high. known k d high)

kept_each : (keys : ℕ) (log : List Version) → EachIsOfKeys keys log → sum_below keys (λ k. length (log_versions log k)) ≡ length log
kept_each keys [] known = sum_none keys
kept_each keys (x ∷ xs) known =
    let e : (k : ℕ) → length (log_versions (x ∷ xs) k) ≡ length (log_versions xs k) + cond (eqb x.key k) 1 0
    = λ k. ⊎_elim
    (λ (q : x.key ≡ k). let y = eq-eqb x.key k q in ap length (oldest_same k x xs q) ∙ rw (y, length-append (log_versions xs k) (revision_of x ∷ [])) refl)
    (λ (q : x.key ≡ k → ⊥). let y = ne_eqb x.key k q in ap length (oldest_other k x xs q) ∙ rw y (omega arith))
    (cases_eq x.key k) in
    let one = sum_one keys x.key (λ k. length (log_versions xs k)) (λ k. length (log_versions (x ∷ xs) k)) known.0 e in
    let rest = kept_each keys xs known.1 in
    omega (arith, one, rest)

pub kept_all : (keys : ℕ) (log : List Version) → AreOfKeys keys log → sum_below keys (λ k. length (log_versions log k)) ≡ length log
kept_all keys log known = kept_each keys log (each_known keys log known)

-- no version is of a key beyond the store's
none_beyond : (keys k : ℕ) (log : List Version) → EachIsOfKeys keys log → keys ≤ k → log_versions log k ≡ []
none_beyond keys k [] known beyond = refl
none_beyond keys k (x ∷ xs) known beyond =
    let low = known.0 in
    oldest_other k x xs (λ q. omega (arith, low, q)) ∙ none_beyond keys k xs known.1 beyond

-- what holds of every log store
pub log_lawful : (keys : ℕ) (log : Packing Version) → keys ≤ MAX_KEYS → capacity log ≤ MAX_CELLS → eqb keys 0 ≡ eqb (capacity log) 0 → AreOfKeys keys log.records → AreFalling (log_versions log.records) → IsLawfulStore (store_of_log keys (capacity log) log.records)
log_lawful keys log few small both known falling =
    let all = kept_all keys log.records known in
    record {
      falling = falling;
      inside = λ k beyond. none_beyond keys k log.records (each_known keys log.records known) beyond;
      within_cells = omega (arith, all);
      few_keys = few;
      few_cells = small;
      both = both;
    }

-- and of an empty one whose set-up was accepted
pub log_made : (keys : ℕ) (log : Packing Version) → log.records ≡ [] → is_ok (sizes_check keys (length log.rest)) ≡ true → record { known : AreOfKeys keys log.records; lawful : IsLawfulStore (store_of_log keys (capacity log) log.records) }
log_made keys log none fine =
    let long : capacity log ≡ length log.rest = omega (arith, ap length none) in
    let known : AreOfKeys keys log.records = rw none (λ k d within. absurd (omega arith)) in
    let falling : AreFalling (log_versions log.records) = rw none (λ k. refl) in
    let l = set_up_limits keys (length log.rest) fine in
    record {
      known = known;
      lawful = log_lawful keys log l.few_keys (rw long l.few_cells) (rw long l.both) known falling;
    }

-- one version more behind the others

module _ (log : List Version) (v : Version) where
  versions_push : (k : ℕ) → log_versions (log ++ v ∷ []) k ≡ versions_with k (log_versions log k) v
  versions_push k = fold_push (versions_with k) [] log v

  store_of_log_push : (keys cells : ℕ) → store_of_log keys cells (log ++ v ∷ []) ≡ with_version v.key v.stamp v.value (store_of_log keys cells log)
  store_of_log_push keys cells = store_same refl refl versions_push

  falling_push : (newest (log_versions log v.key)).stamp < v.stamp → AreFalling (log_versions log) → AreFalling (log_versions (log ++ v ∷ []))
  falling_push later old k =
      rw (versions_push k)
      (⊎_elim
      (λ (e : eqb v.key k ≡ true).
      let same = eqb-true v.key k e in
      let front = rw same at later in
      rw e (falls_more (revision_of v) (log_versions log k) front (old k)))
      (λ (e : eqb v.key k ≡ false). rw e (old k))
      (cases_Bool (eqb v.key k)))

-- a version put behind the records of a log, or given back for want of a place
module _ (keys : ℕ) (old new : Packing Version) (v : Version) (known : AreOfKeys keys old.records) (lawful : IsLawfulStore (store_of_log keys (capacity old) old.records)) (key : v.key < keys) (later : (newest (log_versions old.records v.key)).stamp < v.stamp) where
  pub push_lawful : (r : Result (Unit {0}) Version) → (IsOk r → 0 < length old.rest) → OnOk r (new ≡ record { records = old.records ++ v ∷ []; rest = drop 1 old.rest }) → OnErr r (new ≡ old) → record { known : AreOfKeys keys new.records; lawful : IsLawfulStore (store_of_log keys (capacity new) new.records) }
  push_lawful (Err e) fits pushed full = rw full (record { known = known; lawful = lawful })
  push_lawful (Ok u) fits pushed full =
      let some = fits refl in
      let long : length (old.records ++ v ∷ []) + length (drop 1 old.rest) ≡ capacity old = simp (length-append, length-drop) (omega (arith, some)) in
      let more : AreOfKeys keys (old.records ++ v ∷ []) = All-push (λ x. x.key < keys) old.records v known key in
      let falling = falling_push old.records v later lawful.falling in
      let few : length (old.records ++ v ∷ []) + length (drop 1 old.rest) ≤ MAX_CELLS = rw long lawful.few_cells in
      rw pushed
      (record {
        known = more;
        lawful = log_lawful keys (record { records = old.records ++ v ∷ []; rest = drop 1 old.rest }) lawful.few_keys few (lawful.both ∙ ap (λ n. eqb n 0) (sym long)) more falling;
      })

  -- what such an add answers and leaves
  pub push_told : (r : Result (Unit {0}) Version) (q : Result (Unit {0}) StoreFault) → (IsOk r → 0 < length old.rest) × (0 < length old.rest → IsOk r) → OnOk r (new ≡ record { records = old.records ++ v ∷ []; rest = drop 1 old.rest }) → OnErr r (new ≡ old) → q ≡ cond (is_ok r) (Ok tt) (Err (Full v.key)) → (q ≡ add_answer (store_of_log keys (capacity old) old.records) v.key v.stamp) × (store_of_log keys (capacity new) new.records ≡ added (store_of_log keys (capacity old) old.records) v.key v.stamp v.value)
  push_told (Err e) q fits pushed full is =
      let m = store_of_log keys (capacity old) old.records in
      let none : length old.rest ≡ 0 = ⊎_elim (λ (h : 0 < length old.rest). absurd (let z = fits.1 h in search rules)) (λ (h : length old.rest ≤ 0). omega arith) (cases_lt 0 (length old.rest)) in
      let all = kept_all keys old.records known in
      let full-is = add_full m v.key v.stamp key later (omega (arith, all, none)) in
      (is ∙ sym full-is, rw full (added_refused m v.key v.stamp v.value _ full-is))
  push_told (Ok u) q fits pushed full is =
      let m = store_of_log keys (capacity old) old.records in
      let some = fits.0 refl in
      let long : length (old.records ++ v ∷ []) + length (drop 1 old.rest) ≡ capacity old = simp (length-append, length-drop) (omega (arith, some)) in
      let all = kept_all keys old.records known in
      let fine = add_fine m v.key v.stamp key later (omega (arith, all, some)) in
      (is ∙ sym fine, rw (pushed, long) (store_of_log_push old.records v keys (capacity old) ∙ added_done m v.key v.stamp v.value fine))
