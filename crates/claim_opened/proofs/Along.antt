-- The count after a row of steps is the least of the positions along it.
-- Assumes nothing.
use Rattle.laws.proofs.Prelude.{ℕ, ◌+◌, ◌≤◌, ◌<◌, ◌≡◌, refl, sym, ◌∙◌, true, false, List, [], ◌∷◌, eqb, length, get_or, arith, List-as-Memᴰ, List·Memᴰ·head, List·Memᴰ·not-nil}
use Rattle.laws.proofs.Prelude.{pick, split, either, clash}
use Rattle.position.proofs.Rules.{accepted, count, never, Checked, Step, Share, Give, SendToPool, HandToMiner, Include, Mine, Bump, destination_number}
use Rattle.position.specs.declared.Position.{Position}
use Rattle.position.proofs.Rules.{with_slots, change_slots, with_mined, after_mine, after_bump, effect, FourBytes, step}
use mathlib.Core.List.Memᴰ
use Rattle.position.proofs.StepCases.{StepCase, taken, turned_down, step_case}
use Rattle.step_laws.specs.Wellformed.{Wellformed}
use Rattle.step_laws.proofs.AfterShares.{share_confirmed, give_confirmed}
use Rattle.step_laws.proofs.AfterSends.{send_confirmed, hand_confirmed, include_confirmed}
use Rattle.step_laws.proofs.Wellformeds.{wellformed_step}
use Rattle.dated.specs.declared.Dated.{Dated}
use Rattle.dated.specs.Opens.{opens}
use Rattle.dated.specs.Dated.{count_of, first_open, noted, dated_step, dated_run_from}
use Rattle.dated.proofs.Notes.{noted_length, noted_at}
use Rattle.dated.proofs.Stepping.{step_taken, step_refused, run_next, run_stops}
use Rattle.claim_opened.specs.Claim.{along, Cause, never_open, open_in, Least}
use Rattle.claim_opened.proofs.Staying.{row_stays}

-- no step has fewer blocks mined after it
effect_later : (s : List ℕ) (p : Position) (x : Step) → p.mined ≤ (effect s p x).mined
unfolding effect after_mine with_mined after_bump change_slots with_slots
effect_later s p (Share party t to) = omega (arith, (share_confirmed s party t (destination_number to) p).mined)
effect_later s p (Give party i to) = omega (arith, (give_confirmed i (destination_number to) p).mined)
effect_later s p (SendToPool party t to) = omega (arith, (send_confirmed s t (destination_number to) p).mined)
effect_later s p (HandToMiner party t to) = omega (arith, (hand_confirmed t (destination_number to) p).mined)
effect_later s p (Include party t to) = omega (arith, (include_confirmed t p).mined)
effect_later s p (Mine party t to) = omega arith
effect_later s p (Bump party t to) = omega arith

step_later : (s u : List ℕ) (p : Position) (b : FourBytes) → p.mined ≤ (step s u p b).position.mined
step_later s u p b = by (step_case s u p b)
  where
    by : StepCase s u p b → p.mined ≤ (step s u p b).position.mined
    by (taken x d f r e) = rw e (effect_later s p x)
    by (turned_down n m e) = rw e (omega arith)

module _ (s u : List ℕ) where
  along_next : (b : FourBytes) (bs : List FourBytes) (p : Position) → eqb (step s u p b).refusal accepted ≡ true → along s u (b ∷ bs) p ≡ p ∷ along s u bs (step s u p b).position
  unfolding along
  along_next b bs p h = rw (h, along)

  along_stops : (b : FourBytes) (bs : List FourBytes) (p : Position) → eqb (step s u p b).refusal accepted ≡ false → along s u (b ∷ bs) p ≡ p ∷ []
  unfolding along
  along_stops b bs p h = rw (h, along)

  -- nor has any position along a row
  later : (bs : List FourBytes) (p q : Position) → List-as-Memᴰ q (along s u bs p) → p.mined ≤ q.mined
  unfolding along
  later [] p q m = either (Memᴰ.cases_cons m) (λ e. rw e (omega arith)) (λ k. absurd (List·Memᴰ·not-nil k))
  later (b ∷ bs) p q m =
      split (eqb (step s u p b).refusal accepted)
      (λ y.
      let n = rw (along_next b bs p y) at m in
      either (Memᴰ.cases_cons n) (λ e. rw e (omega arith)) (λ k. omega (arith, step_later s u p b, later bs (step s u p b).position q k)))
      (λ y.
      let n = rw (along_stops b bs p y) at m in
      either (Memᴰ.cases_cons n) (λ e. rw e (omega arith)) (λ k. absurd (List·Memᴰ·not-nil k)))

  -- the first position has t open: its blocks mined are the least
  first_least : (t : ℕ) (bs : List FourBytes) (p : Position) (c : ℕ) (rest : List Position) → opens s u p t ≡ true → c ≡ p.mined
      → ((q : Position) → List-as-Memᴰ q (p ∷ rest) → p.mined ≤ q.mined) → Least s u t (p ∷ rest) c
  first_least t bs p c rest o e h = record { cause = open_in p (List·Memᴰ·head refl) o e; least = λ q m k. omega (arith, e, h q m) }

  -- it has not: the rest decides
  rest_least : (t : ℕ) (p : Position) (c : ℕ) (rest : List Position) → opens s u p t ≡ false → Least s u t rest c → Least s u t (p ∷ rest) c
  rest_least t p c rest o w =
      record {
        cause = by w.cause;
        least = λ q m k. either (Memᴰ.cases_cons m) (λ e. clash k (rw e o)) (λ n. w.least q n k);
      }
    where
      by : Cause s u t rest c → Cause s u t (p ∷ rest) c
      by (never_open e h) = never_open e (λ q m. either (Memᴰ.cases_cons m) (λ f. rw f o) (λ n. h q n))
      by (open_in q m k e) = open_in q (Memᴰ.tail m) k e

  none_least : (t : ℕ) (c : ℕ) → c ≡ never → Least s u t [] c
  none_least t c e = record { cause = never_open e (λ q m. absurd (List·Memᴰ·not-nil m)); least = λ q m k. absurd (List·Memᴰ·not-nil m) }

-- where the counts before p had none for t, those after a row of steps from p on have the least of the positions along it
module _ (s u : List ℕ) (ok : Checked s) (t : ℕ) (l : t < count s) where
  count_first : (p : Position) (counts : List ℕ) → t < length counts → get_or counts t never ≡ never
      → get_or (noted s u p counts) t never ≡ pick (opens s u p t) p.mined never
  unfolding first_open
  count_first p counts m e = noted_at s u p counts t l m ∙ rw e

  -- p and its counts
  abbrev seen : Position → List ℕ → Dated
  seen p counts = record { position = p; opened = noted s u p counts }

  -- t is open in p: its count is p's and stays
  opened_first : (bs : List FourBytes) (c : ℕ) (p : Position) (counts : List ℕ) → Wellformed s p → t < length counts → get_or counts t never ≡ never → opens s u p t ≡ true
      → (rest : List Position) → along s u bs p ≡ p ∷ rest → Least s u t (p ∷ rest) (count_of (dated_run_from s u bs c (seen p counts)).dated t)
  unfolding count_of
  opened_first bs c p counts g m e o rest a =
      let first : count_of (seen p counts) t ≡ p.mined = count_first p counts m e ∙ rw o in
      let set : count_of (seen p counts) t ≡ never → ⊥ = λ z. omega (arith, g.mined, sym first ∙ z) in
      first_least s u t bs p _ rest o (row_stays s u t bs c (seen p counts) set ∙ first) (λ q k. later s u bs p q (rw a k))

  pub row_least : (bs : List FourBytes) (c : ℕ) (p : Position) (counts : List ℕ) → Wellformed s p → t < length counts → get_or counts t never ≡ never
      → Least s u t (along s u bs p) (count_of (dated_run_from s u bs c (seen p counts)).dated t)
  unfolding along dated_run_from count_of
  row_least [] c p counts g m e =
      split (opens s u p t)
      (λ o. opened_first [] c p counts g m e o [] refl)
      (λ o. rest_least s u t p _ [] o (none_least s u t _ (count_first p counts m e ∙ rw o)))
  row_least (b ∷ bs) c p counts g m e =
      split (opens s u p t)
      (λ o.
      split (eqb (step s u p b).refusal accepted)
      (λ y. rw (along_next s u b bs p y) (opened_first (b ∷ bs) c p counts g m e o (along s u bs (step s u p b).position) (along_next s u b bs p y)))
      (λ y. rw (along_stops s u b bs p y) (opened_first (b ∷ bs) c p counts g m e o [] (along_stops s u b bs p y))))
      (λ o.
      let none : get_or (noted s u p counts) t never ≡ never = count_first p counts m e ∙ rw o in
      split (eqb (step s u p b).refusal accepted)
      (λ y.
      let q = (step s u p b).position in
      let f = step_taken s u (seen p counts) b y in
      let n : eqb (dated_step s u (seen p counts) b).refusal accepted ≡ true = rw f in
      let h = row_least bs (c + 1) q (noted s u p counts) (wellformed_step s u ok p b g) (omega (arith, m, noted_length s u p counts)) none in
      rw (along_next s u b bs p y, run_next s u b bs c (seen p counts) n, f) (rest_least s u t p _ (along s u bs q) o h))
      (λ y.
      let f = step_refused s u (seen p counts) b y in
      let n : eqb (dated_step s u (seen p counts) b).refusal accepted ≡ false = rw f y in
      rw (along_stops s u b bs p y, run_stops s u b bs c (seen p counts) n) (rest_least s u t p _ [] o (none_least s u t _ none))))
