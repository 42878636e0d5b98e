-- What the list answers, from the actors' sets, and how large it can be.
-- Assumes nothing.
use Rattle.laws.proofs.Prelude.{ℕ, ◌*◌, ◌≤◌, ◌<◌, ◌≡◌, refl, sym, ap, ◌∙◌, List, ◌++◌, append_assoc, length, length-append, arith, over}
use Rattle.position.proofs.Rules.{alice, bob, carol, miner, run, open_steps, list_bytes, fitted, list_answer}
use Rattle.position.specs.declared.Position.{Position}
use Rattle.position.specs.declared.Ran.{Ran}
use Rattle.output.specs.Forms.Emitted.{actor_bytes}
use Rattle.output.proofs.Lengths.{length_actor, count_bound}
use Rattle.queries.specs.declared.OpenSets.{OpenSets}
use Rattle.position.proofs.Passing.{Gives, passed_on, not_passed_on, written, not_written}
use Rattle.queries.specs.Forms.OpenSets.{below_sets, last_set, open_sets}
use Rattle.queries.proofs.OpenBytes.{list_bytes_lem, list_length, sets_open}
use Rattle.call_run.proofs.Bounds.{written_bounds}
use Rattle.call_list.specs.Forms.SetsBytes.{two_bytes, sets_bytes, sets_count}

-- ---- the actors' sets
module _ (a b c m : OpenSets) where
  -- four bytes for each step
  pub sets_length : length (sets_bytes a b c m) ≡ 4 * sets_count a b c m
  unfolding sets_bytes two_bytes sets_count
  sets_length =
      let x = actor_bytes a.below a.last alice in
      let y = actor_bytes b.below b.last bob in
      let z = actor_bytes c.below c.last carol in
      let w = actor_bytes m.below m.last miner in
      omega (
        arith,
        length-append (x ++ y) (z ++ w),
        length-append x y,
        length-append z w,
        length_actor a.below a.last alice,
        length_actor b.below b.last bob,
        length_actor c.below c.last carol,
        length_actor m.below m.last miner,
      )

  pub sets_bound : sets_count a b c m ≤ 3696
  unfolding sets_count
  sets_bound = omega (arith, count_bound a.below a.last, count_bound b.below b.last, count_bound c.below c.last, count_bound m.below m.last)

-- ---- the answer for the actors' sets, where n is the number of steps that the code found
module _ (a b c m : OpenSets) (n : ℕ) (out : List ℕ) (e : n ≡ sets_count a b c m) where
  -- the bytes have room where four for each step have
  pub sets_room : 4 * n ≤ length out → length (sets_bytes a b c m) ≤ length out
  sets_room h = omega (arith, e, h, sets_length a b c m)

  pub gives_short : length out < 4 * n → Gives 25 0 out (fitted (sets_bytes a b c m) (sets_count a b c m) out)
  gives_short h = rw (not_written (sets_bytes a b c m) out (sets_count a b c m) (omega (arith, e, h, sets_length a b c m))) (refl, (refl, refl))

  pub gives_whole : (l : List ℕ) → 4 * n ≤ length out → l ≡ over (sets_bytes a b c m) out → Gives 0 n l (fitted (sets_bytes a b c m) (sets_count a b c m) out)
  gives_whole l h o = rw (written (sets_bytes a b c m) out (sets_count a b c m) (sets_room h)) (refl, (e, o))

-- ---- the sets of a position
module _ (s u : List ℕ) (p : Position) where
  -- what the code found is the list
  pub sets_list : (a b c m : OpenSets) → a ≡ open_sets s u p alice → b ≡ open_sets s u p bob → c ≡ open_sets s u p carol → m ≡ open_sets s u p miner → sets_bytes a b c m ≡ list_bytes s u p
  unfolding sets_bytes two_bytes open_sets
  sets_list a b c m e f h g =
      rw (e, f, h, g)
      (append_assoc (actor_bytes (below_sets s u p alice) (last_set s u p alice) alice) (actor_bytes (below_sets s u p bob) (last_set s u p bob) bob)
      (actor_bytes (below_sets s u p carol) (last_set s u p carol) carol ++ actor_bytes (below_sets s u p miner) (last_set s u p miner) miner)
      ∙ sym
      (list_bytes_lem s u p (below_sets s u p alice) (below_sets s u p bob) (below_sets s u p carol) (below_sets s u p miner)
      (last_set s u p alice) (last_set s u p bob) (last_set s u p carol) (last_set s u p miner)
      (sets_open s u p alice) (sets_open s u p bob) (sets_open s u p carol) (sets_open s u p miner)))

  pub sets_steps : (a b c m : OpenSets) → a ≡ open_sets s u p alice → b ≡ open_sets s u p bob → c ≡ open_sets s u p carol → m ≡ open_sets s u p miner → sets_count a b c m ≡ length (open_steps s u p)
  sets_steps a b c m e f h g =
      let k : length (sets_bytes a b c m) ≡ length (list_bytes s u p) = ap length (sets_list a b c m e f h g) in
      omega (arith, k, sets_length a b c m, list_length s u p)

  pub steps_bound : length (open_steps s u p) ≤ 3696
  steps_bound =
      rw (← (sets_steps (open_sets s u p alice) (open_sets s u p bob) (open_sets s u p carol) (open_sets s u p miner) refl refl refl refl))
      (sets_bound (open_sets s u p alice) (open_sets s u p bob) (open_sets s u p carol) (open_sets s u p miner))

  -- the same answer, from the sets that the code found
  pub gives_sets : (a b c m : OpenSets) (out l : List ℕ) (x y : ℕ) → a ≡ open_sets s u p alice → b ≡ open_sets s u p bob → c ≡ open_sets s u p carol → m ≡ open_sets s u p miner
      → Gives x y l (fitted (sets_bytes a b c m) (sets_count a b c m) out) → Gives x y l (fitted (list_bytes s u p) (length (open_steps s u p)) out)
  gives_sets a b c m out l x y e f h g k = rw (← (sets_list a b c m e f h g), ← (sets_steps a b c m e f h g)) k

-- ---- the answer after a run, where r is what the code found
module _ (s u j out : List ℕ) where
  pub gives_refused : (r : Ran) → r ≡ run s u j → (r.refusal ≡ 0 → ⊥) → Gives r.refusal 0 out (list_answer s u j out)
  unfolding list_answer
  gives_refused r e z = rw (← e) (rw (not_passed_on r (list_bytes s u r.position) out (length (open_steps s u r.position)) z) (refl, (refl, refl)))

  pub gives_passed : (r : Ran) (x y : ℕ) (l : List ℕ) → r ≡ run s u j → r.refusal ≡ 0
      → Gives x y l (fitted (list_bytes s u r.position) (length (open_steps s u r.position)) out) → Gives x y l (list_answer s u j out)
  unfolding list_answer
  gives_passed r x y l e z h = rw (← e) (rw (passed_on r (list_bytes s u r.position) out (length (open_steps s u r.position)) z) h)

  -- how large the answer can be, where x and y are what the code found
  list_bounds : ((list_answer s u j out).refusal < 33) × ((list_answer s u j out).count ≤ 3696)
  unfolding list_answer
  list_bounds =
      let p = (run s u j).position in
      let w = written_bounds s u j (list_bytes s u p) out (length (open_steps s u p)) in
      (w.0, omega (arith, w.1, steps_bound s u p))

  pub listed_bounds : (x y : ℕ) (l : List ℕ) → Gives x y l (list_answer s u j out) → (x < 33) × (y ≤ 3696)
  listed_bounds x y l h = rw (h.0, h.1.0) list_bounds
