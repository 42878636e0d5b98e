-- What waits and what X sends, for a destination other than `off`, as the code works it out.
-- Assumes nothing.
use Rattle.laws.proofs.Prelude.{ℕ, ◌-◌, ◌≤◌, ◌<◌, ◌≡◌, refl, Bool, true, false, not, ◌&&◌, List, eqb, ltb, eqb-true, eq-eqb, ltb-true, lt-ltb, le-ltb, arith, split}
use Rattle.laws.proofs.Prelude.{either, and_parts, or_parts, or_right, any_some, any_found}
use Rattle.position.proofs.Rules.{contract, destinations, is_payee, is_contract, standing, entry_to, sends_to, slot, in_pool, pool_to, in_block, block_to}
use Rattle.position.specs.declared.Position.{Position}
use Rattle.attainable.specs.Attainable.{waits_for}
use Rattle.attainable.specs.Forms.Others.{waits_apart, sends_apart, names_apart, waits_in, sends_in}
use Rattle.attainable.proofs.Lacking.{both_ways}

-- an entry names d, which is a destination other than `off`
named_from : (e off d : ℕ) → d < destinations → not (eqb d off) ≡ true → (standing e && eqb (entry_to e) d) ≡ true → names_apart e off ≡ true
unfolding names_apart
named_from e off d l n h =
    let w = and_parts (standing e) (eqb (entry_to e) d) h in
    let i : entry_to e ≡ d = eqb-true (entry_to e) d w.1 in
    rw (w.0, i, lt-ltb d destinations l, n)

named_to : (e off : ℕ) → names_apart e off ≡ true
    → (entry_to e < destinations) × (not (eqb (entry_to e) off) ≡ true) × ((standing e && eqb (entry_to e) (entry_to e)) ≡ true)
unfolding names_apart
named_to e off h =
    let a = and_parts (standing e) (ltb (entry_to e) destinations && not (eqb (entry_to e) off)) h in
    let b = and_parts (ltb (entry_to e) destinations) (not (eqb (entry_to e) off)) a.1 in
    (ltb-true (entry_to e) destinations b.0, b.1, rw a.0 (eq-eqb (entry_to e) (entry_to e) refl))

-- by the entry's number
pub names_none : (e off : ℕ) → e ≡ 0 → names_apart e off ≡ false
unfolding names_apart standing
names_none e off h = rw h

pub names_far : (e off : ℕ) → 4 < e → names_apart e off ≡ false
unfolding names_apart standing entry_to
names_far e off h = rw (lt-ltb 0 e (omega (arith, h)), le-ltb (e - 1) 4 (omega (arith, h)))

pub names_one : (e off : ℕ) → (e ≡ 0 → ⊥) → e ≤ 4 → names_apart e off ≡ not (eqb (e - 1) off)
unfolding names_apart standing entry_to
names_one e off h l = rw (lt-ltb 0 e (omega (arith, h)), lt-ltb (e - 1) 4 (omega (arith, h, l)))

module _ (p : Position) (off t : ℕ) where
  abbrev wait : ℕ → Bool
  wait d = not (eqb d off) && waits_for p t d

  pub waits_apart_lem : waits_in (slot p t) off ≡ waits_apart p off t
  unfolding waits_in waits_apart waits_for in_pool pool_to in_block block_to
  waits_apart_lem =
      both_ways (waits_in (slot p t) off) (waits_apart p off t)
      (λ y.
      either (or_parts (names_apart (slot p t).pool off) (names_apart (slot p t).block off) y)
      (λ z.
      let w = named_to (slot p t).pool off z in
      any_found destinations (entry_to (slot p t).pool) wait w.0 (rw (w.1, w.2)))
      (λ z.
      let w = named_to (slot p t).block off z in
      any_found destinations (entry_to (slot p t).block) wait w.0 (rw w.1 (or_right (in_pool p t && eqb (pool_to p t) (block_to p t)) (in_block p t && eqb (block_to p t) (block_to p t)) w.2))))
      (λ y.
      let w = any_some destinations wait y in
      let d = w.0 in
      let n = and_parts (not (eqb d off)) (waits_for p t d) w.2 in
      either (or_parts (in_pool p t && eqb (pool_to p t) d) (in_block p t && eqb (block_to p t) d) n.1)
      (λ z. rw (named_from (slot p t).pool off d w.1 n.0 z))
      (λ z. or_right (names_apart (slot p t).pool off) _ (named_from (slot p t).block off d w.1 n.0 z)))

-- X sends t for d
module _ (s : List ℕ) (x off t : ℕ) where
  abbrev send : ℕ → Bool
  send d = not (eqb d off) && sends_to s x t d

  sends_for : (d : ℕ) → d < destinations → send d ≡ true → sends_in s x off t ≡ true
  unfolding sends_in sends_to
  sends_for d l h =
      let w = and_parts (not (eqb d off)) (sends_to s x t d) h in
      split (is_contract s t)
      (λ c.
      let i : d ≡ contract = eqb-true d contract (rw c at w.1) in
      rw c (rw i at w.0))
      (λ c.
      let v = and_parts (eqb d x) (is_payee s t x) (rw c at w.1) in
      let i : d ≡ x = eqb-true d x v.0 in
      let a : not (eqb x off) ≡ true = rw i at w.0 in
      let b : x < destinations = rw i at l in
      rw (c, lt-ltb x destinations b, a, v.1))

  for_some : sends_in s x off t ≡ true → sends_apart s x off t ≡ true
  unfolding sends_in sends_apart sends_to
  for_some h =
      split (is_contract s t)
      (λ c.
      let n : not (eqb contract off) ≡ true = rw c at h in
      any_found destinations contract send (omega arith) (rw (n, c) (eq-eqb contract contract refl)))
      (λ c.
      let a = and_parts (not (eqb x off)) (ltb x destinations && is_payee s t x) (rw c at h) in
      let b = and_parts (ltb x destinations) (is_payee s t x) a.1 in
      any_found destinations x send (ltb-true x destinations b.0) (rw (a.0, c, eq-eqb x x refl, b.1)))

  pub sends_apart_lem : sends_in s x off t ≡ sends_apart s x off t
  unfolding sends_apart
  sends_apart_lem =
      both_ways (sends_in s x off t) (sends_apart s x off t)
      for_some
      (λ y. let w = any_some destinations send y in sends_for w.0 w.1 w.2)
