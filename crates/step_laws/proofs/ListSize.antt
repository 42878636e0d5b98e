-- How many steps can be open at once on a sheet of P parties: for each transaction P² shares, P hand-ins and, as a send is refused in the pool
-- and an inclusion or a bump outside it, P of the other kinds; for each signature P²/4 gives, as a giver holds it and a receiver does not; one
-- block; and P first shares under conduct. Of the number of parties it is used that there are two at least.
-- Assumes nothing.
use Rattle.laws.proofs.Prelude.{ℕ, zero, suc, ◌+◌, ◌*◌, ◌/◌, ◌≤◌, ◌<◌, ◌≡◌, refl, ap, ◌∙◌, Bool, true, false, not, ◌&&◌, List, eqb, ltb, length, length-append, eqb-true}
use Rattle.laws.proofs.Prelude.{eqb-false, ltb-true, ne_eqb, lt-ltb, le-ltb, arith, one-mul, mul-le-mul_left, and-true, pick, split, either, clash, and_parts, or_parts}
use Rattle.laws.proofs.Prelude.{passed, gather, sum_below, sum_bound, sum_both, sum_same, sum_swap, length_gathered}
use Rattle.position.proofs.Rules.{accepted, parties, party_at, count, signatures, per_day, conduct, Checked, SetupChecked, Destination, Alice, Bob, Contract, Carol, Step}
use Rattle.position.proofs.Rules.{Share, Give, SendToPool, HandToMiner, Include, Mine, Bump, miner, contract, destinations, destination_number, is_party, is_payee}
use Rattle.position.proofs.Rules.{is_contract, Some, slot_count, in_pool, sent, holds, no_transaction, sends_to, shares_to, is_other, first_share_fields, fields_right}
use Rattle.position.specs.declared.Position.{Position}
use Rattle.position.proofs.Rules.{of_kind, spelled, range_checked, decode, waiting, owed, give_met, give_tests, send_tests, pool_tests, include_tests, bump_tests, conduct_allows}
use Rattle.position.proofs.Rules.{step_refusal, actor_at, actors, kinds, if_accepted, open_at, open_of, actor_steps, open_steps}
use native.Mathlib.Numerals.{add-one}
use Rattle.sheet.proofs.Parties.{parties_some, at_not_miner, party_at_lem, party_miner}
use Rattle.sheet.proofs.Theorems.{parties_saswap, saswap_sizes}
use Rattle.slots.proofs.Conflicts.{conflict_self, no_conflict_lem}
use Rattle.position.specs.StepRefusal.{tests}
use Rattle.step_laws.specs.ListBound.{most_open}
use Rattle.step_laws.proofs.Totals.{sum_le, sum_most, sum_alike, sum_one, sum_first, sum_parties, sum_tests, pairs}
use Rattle.step_laws.proofs.Listed.{open_gathered}

-- a destination by its number
unfoldable toward : ℕ → Destination
toward zero = Alice
toward (suc zero) = Bob
toward (suc (suc zero)) = Contract
toward (suc (suc (suc d))) = Carol

toward_number : (d : ℕ) → d < destinations → destination_number (toward d) ≡ d
unfolding destination_number toward
toward_number zero h = refl
toward_number (suc zero) h = refl
toward_number (suc (suc zero)) h = refl
toward_number (suc (suc (suc zero))) h = refl
toward_number (suc (suc (suc (suc d)))) h = absurd (omega arith)

seven : (f : ℕ → ℕ) → sum_below kinds f ≡ f 0 + f 1 + f 2 + f 3 + f 4 + f 5 + f 6
unfolding sum_below
seven f = omega arith

module _ (s u : List ℕ) (p : Position) where
  -- 1 for a step that is open, else 0
  unfoldable one : Step → ℕ
  one x = length (if_accepted s u p (range_checked s u (Some x)))

  one_if : (x : Step) (b : Bool) → (fields_right s u x ≡ true → step_refusal s u p x ≡ accepted → b ≡ true) → one x ≤ pick b 1 0
  unfolding one range_checked if_accepted
  one_if x b h =
      split (fields_right s u x)
      (λ f.
      split (eqb (step_refusal s u p x) accepted)
      (λ e. rw (f, e, h f (eqb-true (step_refusal s u p x) accepted e)) (omega arith))
      (λ e. rw (f, e) (omega arith)))
      (λ f. rw f (omega arith))

  -- ---- the open steps of an actor, a kind and a transaction byte
  abbrev at : ℕ → ℕ → ℕ → ℕ
  at a k t = length (open_at s u p a k t)

  module _ (a k t : ℕ) (step : Destination → Step) (reads : (to : Destination) → of_kind k a t to ≡ Some (step to)) where
    counted : at a k t ≡ sum_below destinations (λ d. one (step (toward d)))
    unfolding open_at gather decode spelled one sum_below toward
    counted = rw (reads Alice, reads Bob, reads Contract, reads Carol, length-append, length-append, length-append) (omega arith)

    at_most : (b : ℕ → Bool)
        → ((to : Destination) → fields_right s u (step to) ≡ true → step_refusal s u p (step to) ≡ accepted → b (destination_number to) ≡ true)
        → at a k t ≤ sum_below destinations (λ d. pick (b d) 1 0)
    at_most b h =
        rw counted
        (sum_le destinations (λ d. one (step (toward d))) (λ d. pick (b d) 1 0)
        (λ d l. rw (toward_number d l) at (one_if (step (toward d)) (b (destination_number (toward d))) (h (toward d)))))

    -- none where x fails, else at most w, if b has no more destinations
    at_few : (x : Bool) (b : ℕ → Bool) (w : ℕ) → sum_below destinations (λ d. pick (b d) 1 0) ≤ w
        → ((to : Destination) → fields_right s u (step to) ≡ true → step_refusal s u p (step to) ≡ accepted → (x ≡ true) × (b (destination_number to) ≡ true))
        → at a k t ≤ pick x w 0
    at_few x b w l h =
        split x
        (λ y. rw y (omega (arith, at_most b (λ to f r. (h to f r).1))))
        (λ y. rw y (omega (arith, at_most (λ d. false) (λ to f r. clash (h to f r).0 y), sum_bound destinations 0 (λ d. 0) (λ d. omega arith))))

  -- 1 Share: to the contract, or to each payee
  shares_few : (t : ℕ) → sum_below destinations (λ d. pick (shares_to s t d) 1 0) ≤ parties s
  unfolding shares_to
  shares_few t =
      split (is_contract s t)
      (λ c. rw c (omega (arith, sum_one destinations contract 1, parties_some s)))
      (λ c. rw c (omega (arith, sum_parties s (is_payee s t) destinations, sum_tests (parties s) (λ k. is_payee s t (party_at k)))))

  share_at : (a t : ℕ) → t < slot_count → at a 1 t ≤ pick (is_party s a && ltb t (count s)) (parties s) 0
  unfolding of_kind fields_right first_share_fields
  share_at a t l =
      at_few a 1 t (Share a t) (λ to. refl) (is_party s a && ltb t (count s)) (shares_to s t) (parties s) (shares_few t)
      (λ to f r.
      let w = and_parts (is_party s a) _ f in
      either (or_parts (ltb t (count s) && shares_to s t (destination_number to)) _ w.1)
      (λ y. let v = and_parts (ltb t (count s)) (shares_to s t (destination_number to)) y in (rw w.0 v.0, v.1))
      (λ y. clash (and_parts (eqb t 255) _ y).0 (ne_eqb t 255 (λ e. omega arith))))

  -- a first share, under conduct
  first_at : (a : ℕ) → count s ≤ slot_count → at a 1 no_transaction ≤ pick (is_party s a && not (eqb (conduct u) 0)) 1 0
  unfolding of_kind fields_right first_share_fields
  first_at a l =
      at_few a 1 255 (Share a 255) (λ to. refl) (is_party s a && not (eqb (conduct u) 0)) (λ d. eqb d contract) 1 (sum_one destinations contract 1)
      (λ to f r.
      let w = and_parts (is_party s a) _ f in
      either (or_parts (ltb 255 (count s) && shares_to s 255 (destination_number to)) _ w.1)
      (λ y. clash (and_parts (ltb 255 (count s)) _ y).0 (le-ltb 255 (count s) (omega arith)))
      (λ y. let v = and_parts (not (eqb (conduct u) 0)) (eqb (destination_number to) contract) y in (rw w.0 v.0, v.1)))

  -- 2 Give: to each that does not hold what the giver holds
  abbrev giving : ℕ → ℕ → ℕ → Bool
  giving i a d = holds p a i && not (holds p d i)

  give_at : (a i : ℕ) → at a 2 i ≤ pick (is_party s a && ltb i (signatures s)) (sum_below (parties s) (λ k. pick (giving i a (party_at k)) 1 0)) 0
  unfolding of_kind fields_right is_other step_refusal tests give_tests give_met
  give_at a i =
      at_few a 2 i (Give a i) (λ to. refl) (is_party s a && ltb i (signatures s)) (λ d. is_party s d && giving i a d) _ (sum_parties s (giving i a) destinations)
      (λ to f r.
      let d = destination_number to in
      let w = and_parts (is_party s a) _ f in
      let v = and_parts (ltb i (signatures s)) _ w.1 in
      let z = and_parts (conduct_allows s u p (Give a i to)) (giving i a d) (passed (tests s u p (Give a i to)) refl r 13) in
      (rw w.0 v.0, rw (and_parts (is_party s d) _ v.1).0 z.1))

  -- 3 to 7: to one destination
  one_at : (a k t : ℕ) (step : Destination → Step) → ((to : Destination) → of_kind k a t to ≡ Some (step to))
      → (who y x : Bool) (right : ℕ → Bool) (only : ℕ)
      → ((to : Destination) → fields_right s u (step to) ≡ (who && (y && right (destination_number to))))
      → ((d : ℕ) → right d ≡ true → eqb d only ≡ true)
      → ((to : Destination) → y ≡ true → step_refusal s u p (step to) ≡ accepted → x ≡ true)
      → at a k t ≤ pick (who && (y && x)) 1 0
  one_at a k t step reads who y x right only fields alone h =
      at_few a k t step reads (who && (y && x)) (λ d. eqb d only) 1 (sum_one destinations only 1)
      (λ to f r.
      let w = and_parts who (y && right (destination_number to)) (rw (fields to) at f) in
      let v = and_parts y (right (destination_number to)) w.1 in
      (rw (w.0, v.0) (h to v.0 r), alone (destination_number to) v.1))

  goes : (a t d : ℕ) → sends_to s a t d ≡ true → eqb d (pick (is_contract s t) contract a) ≡ true
  unfolding sends_to
  goes a t d h = split (is_contract s t) (λ c. rw c (rw c at h)) (λ c. rw c (and_parts (eqb d a) (is_payee s t a) (rw c at h)).0)

  -- a send is refused for what is in the pool, an inclusion and a bump for what is not
  unsent : (a t : ℕ) (to : Destination) → ltb t (count s) ≡ true → step_refusal s u p (SendToPool a t to) ≡ accepted → not (in_pool p t) ≡ true
  unfolding step_refusal tests pool_tests send_tests sent
  unsent a t to l r =
      split (in_pool p t)
      (λ h. clash (rw h) (no_conflict_lem s (sent p) t (passed (tests s u p (SendToPool a t to)) refl r 14) t (ltb-true t (count s) l) (conflict_self s t)))
      (λ h. rw h)

  included : (a t : ℕ) (to : Destination) → ltb t (count s) ≡ true → step_refusal s u p (Include a t to) ≡ accepted → in_pool p t ≡ true
  unfolding step_refusal tests include_tests
  included a t to l r = passed (tests s u p (Include a t to)) refl r 19

  bumped : (a t : ℕ) (to : Destination) → ltb t (count s) ≡ true → step_refusal s u p (Bump a t to) ≡ accepted → in_pool p t ≡ true
  unfolding step_refusal tests bump_tests owed waiting
  bumped a t to l r =
      let w = passed (tests s u p (Bump a t to)) refl r 21 in
      split (in_pool p t) (λ h. h) (λ h. clash w (rw h))

  -- ---- those of all actors
  abbrev each : ℕ → ℕ → ℕ
  each k t = sum_below (actors s) (λ j. at (actor_at s j) k t)

  actors_are : (f : ℕ → ℕ) → sum_below (actors s) (λ j. f (actor_at s j)) ≡ sum_below (parties s) (λ j. f (party_at j)) + f miner
  unfolding actor_at sum_below
  actors_are f =
      rw (add-one, le-ltb (parties s) (parties s) (omega arith), sum_same (parties s) (λ j. f (actor_at s j)) (λ j. f (party_at j)) (λ j l. rw (lt-ltb j (parties s) l)))

  -- of the parties alone, and of the miner alone
  each_party : (k t : ℕ) (y : Bool) (w : ℕ → ℕ) → ((a : ℕ) → at a k t ≤ pick (is_party s a && y) (w a) 0)
      → each k t ≤ pick y (sum_below (parties s) (λ j. w (party_at j))) 0
  each_party k t y w h =
      let last : at miner k t ≤ 0 = rw (party_miner s) at (h miner) in
      let parts : (j : ℕ) → j < parties s → at (party_at j) k t ≤ pick y (w (party_at j)) 0 = λ j l. rw (party_at_lem s j l) at (h (party_at j)) in
      split y
      (λ e. rw e (omega (arith, actors_are (λ a. at a k t), sum_le (parties s) (λ j. at (party_at j) k t) (λ j. w (party_at j)) (λ j l. rw e at (parts j l)))))
      (λ e. rw e (omega (arith, actors_are (λ a. at a k t), sum_most (parties s) 0 (λ j. at (party_at j) k t) (λ j l. rw e at (parts j l)))))

  each_few : (k t : ℕ) (y : Bool) (w : ℕ) → ((a : ℕ) → at a k t ≤ pick (is_party s a && y) w 0) → each k t ≤ pick y (w * parties s) 0
  each_few k t y w h = rw (sum_alike (parties s) w) at (each_party k t y (λ a. w) h)

  each_miner : (k t : ℕ) (y : Bool) → ((a : ℕ) → at a k t ≤ pick (eqb a miner && y) 1 0) → each k t ≤ pick y 1 0
  each_miner k t y h =
      let last : at miner k t ≤ pick y 1 0 = h miner in
      omega (arith, actors_are (λ a. at a k t), sum_most (parties s) 0 (λ j. at (party_at j) k t) (λ j l. rw (at_not_miner j) at (h (party_at j))))

  give_each : (i : ℕ) → each 2 i ≤ pick (ltb i (signatures s)) (parties s * parties s / 4) 0
  give_each i =
      let w = each_party 2 i (ltb i (signatures s)) (λ a. sum_below (parties s) (λ k. pick (giving i a (party_at k)) 1 0)) (λ a. give_at a i) in
      split (ltb i (signatures s))
      (λ y. let z = rw y at w in rw y (omega (arith, pairs (parties s) (λ j. holds p (party_at j) i))))
      (λ y. let z = rw y at w in rw y z)

  hand_each : (t : ℕ) → each 4 t ≤ pick (ltb t (count s)) (parties s) 0
  unfolding of_kind fields_right
  hand_each t =
      rw (and-true, one-mul) at
      (each_few 4 t (ltb t (count s) && true) 1
      (λ a. one_at a 4 t (HandToMiner a t) (λ to. refl) (is_party s a) (ltb t (count s)) true (sends_to s a t) _ (λ to. refl) (goes a t) (λ to y r. refl)))

  -- 3, 5 and 7 together
  pool_each : (t : ℕ) → each 3 t + (each 5 t + each 7 t) ≤ pick (ltb t (count s)) (parties s) 0
  unfolding of_kind fields_right
  pool_each t =
      let sends = each_few 3 t (ltb t (count s) && not (in_pool p t)) 1 (λ a. one_at a 3 t (SendToPool a t) (λ to. refl) (is_party s a) (ltb t (count s)) (not (in_pool p t)) (sends_to s a t) _ (λ to. refl) (goes a t) (unsent a t)) in
      let includes = each_miner 5 t (ltb t (count s) && in_pool p t) (λ a. one_at a 5 t (Include a t) (λ to. refl) (eqb a miner) (ltb t (count s)) (in_pool p t) (λ d. eqb d contract) contract (λ to. refl) (λ d h. h) (included a t)) in
      let bumps = each_miner 7 t (ltb t (count s) && in_pool p t) (λ a. one_at a 7 t (Bump a t) (λ to. refl) (eqb a miner) (ltb t (count s)) (in_pool p t) (λ d. eqb d contract) contract (λ to. refl) (λ d h. h) (bumped a t)) in
      split (ltb t (count s))
      (λ y.
      split (in_pool p t)
      (λ h. let a = rw (y, h) at sends in let b = rw (y, h) at includes in let c = rw (y, h) at bumps in rw y (omega (arith, parties_some s)))
      (λ h. let a = rw (y, h) at sends in let b = rw (y, h) at includes in let c = rw (y, h) at bumps in rw y (omega arith)))
      (λ y. let a = rw y at sends in let b = rw y at includes in let c = rw y at bumps in rw y (omega arith))

  -- ---- those of a kind
  unfoldable all : ℕ → ℕ
  all k = sum_below slot_count (each k) + each k no_transaction

  over : (f : ℕ → ℕ) (m w : ℕ) → m ≤ slot_count → ((t : ℕ) → f t ≤ pick (ltb t m) w 0) → sum_below slot_count f + f no_transaction ≤ w * m
  over f m w l h =
      let last : f no_transaction ≤ 0 = rw (le-ltb 255 m (omega arith)) at (h no_transaction) in
      omega (arith, sum_le slot_count f (λ t. pick (ltb t m) w 0) (λ t j. h t), sum_first slot_count m w)

  -- 1 where the conduct is not open
  abbrev closed : ℕ
  closed = pick (eqb (conduct u) 0) 0 1

  module _ (n : count s ≤ slot_count) where
    first_each : each 1 no_transaction ≤ parties s * closed
    first_each =
        let w = each_few 1 no_transaction (not (eqb (conduct u) 0)) 1 (λ a. first_at a n) in
        split (eqb (conduct u) 0) (λ y. let z = rw y at w in rw y (omega arith)) (λ y. let z = rw y at w in rw y (omega arith))

    shares : all 1 ≤ parties s * parties s * count s + parties s * closed
    unfolding all
    shares =
        omega (
          arith,
          sum_le slot_count (each 1) (λ t. pick (ltb t (count s)) (parties s * parties s) 0) (λ t l. each_few 1 t (ltb t (count s)) (parties s) (λ a. share_at a t l)),
          sum_first slot_count (count s) (parties s * parties s),
          first_each,
        )

    hands : all 4 ≤ parties s * count s
    unfolding all
    hands = over (each 4) (count s) (parties s) n hand_each

    pools : all 3 + (all 5 + all 7) ≤ parties s * count s
    unfolding all
    pools =
        omega (
          arith,
          over (λ t. each 3 t + (each 5 t + each 7 t)) (count s) (parties s) n pool_each,
          sum_both slot_count (each 3) (λ t. each 5 t + each 7 t),
          sum_both slot_count (each 5) (each 7),
        )

  gives : signatures s ≤ slot_count → all 2 ≤ parties s * parties s / 4 * signatures s
  unfolding all
  gives m = over (each 2) (signatures s) (parties s * parties s / 4) m give_each

  -- 6 Mine: transaction 255 alone
  mine_each : (t : ℕ) → each 6 t ≤ pick (eqb t no_transaction && true) 1 0
  unfolding of_kind fields_right
  mine_each t = each_miner 6 t (eqb t no_transaction && true) (λ a. one_at a 6 t (Mine a t) (λ to. refl) (eqb a miner) (eqb t no_transaction) true (λ d. eqb d contract) contract (λ to. refl) (λ d h. h) (λ to y r. refl))

  mines : all 6 ≤ 1
  unfolding all
  mines =
      let last : each 6 no_transaction ≤ 1 = mine_each no_transaction in
      omega (arith, sum_most slot_count 0 (each 6) (λ t l. rw (ne_eqb t 255 (λ e. omega arith)) at (mine_each t)))

  -- ---- the list
  kind_is : (k : ℕ) → sum_below (actors s) (λ j. length (open_of s u p (actor_at s j) k)) ≡ all k
  unfolding open_of all
  kind_is k =
      sum_same (actors s) (λ j. length (open_of s u p (actor_at s j) k)) (λ j. sum_below slot_count (at (actor_at s j) k) + at (actor_at s j) k no_transaction)
      (λ j l. length-append (gather slot_count (open_at s u p (actor_at s j) k)) (open_at s u p (actor_at s j) k no_transaction) ∙ rw (length_gathered slot_count (open_at s u p (actor_at s j) k)))
      ∙ sum_both (actors s) (λ j. sum_below slot_count (at (actor_at s j) k)) (λ j. at (actor_at s j) k no_transaction)
      ∙ rw (sum_swap (actors s) slot_count (λ j. at (actor_at s j) k))

  list_is : length (open_steps s u p) ≡ sum_below kinds (λ k. all (k + 1))
  unfolding actor_steps
  list_is =
      rw (open_gathered s u p)
      (length_gathered (actors s) (λ j. actor_steps s u p (actor_at s j))
      ∙ sum_same (actors s) (λ j. length (actor_steps s u p (actor_at s j))) (λ j. sum_below kinds (λ k. length (open_of s u p (actor_at s j) (k + 1))))
      (λ j l. length_gathered kinds (λ k. open_of s u p (actor_at s j) (k + 1)))
      ∙ sum_swap (actors s) kinds (λ j k. length (open_of s u p (actor_at s j) (k + 1)))
      ∙ sum_same kinds (λ k. sum_below (actors s) (λ j. length (open_of s u p (actor_at s j) (k + 1)))) (λ k. all (k + 1)) (λ k l. kind_is (k + 1)))

  pub list_few : count s ≤ slot_count → signatures s ≤ slot_count → length (open_steps s u p) ≤ most_open (parties s) (count s) (signatures s) closed
  list_few n m = omega (arith, list_is, seven (λ k. all (k + 1)), shares n, gives m, pools n, hands n, mines)

-- conduct 1 and 2 take the SASwap sheet only, whose lists are shorter
pub list_most : (s u : List ℕ) (p : Position) → Checked s → SetupChecked s u → length (open_steps s u p) ≤ most_open (parties s) 32 8 0
list_most s u p c d =
    let few = c.sized.few in
    let most = list_few s u p few (omega (arith, c.signatures_few)) in
    split (eqb (conduct u) 0)
    (λ y.
    let z = rw y at most in
    omega (arith, mul-le-mul_left (parties s * parties s + 2 * parties s) few, mul-le-mul_left (parties s * parties s / 4) c.signatures_few))
    (λ y.
    let n = eqb-false (conduct u) 0 y in
    let e = d.sheet_fits (omega arith) in
    let q = saswap_sizes (per_day u) in
    let two : parties s ≡ 2 = ap parties e ∙ parties_saswap (per_day u) in
    let z = rw (y, two, ap count e ∙ q.0, ap signatures e ∙ q.1) at most in
    rw two (omega arith))
