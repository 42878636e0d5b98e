-- How a key comes to be held under careful conduct on the SASwap sheet.
-- Assumes nothing.
use Rattle.laws.proofs.Prelude.{ℕ, ◌^◌, ◌<◌, ◌≡◌, refl, sym, ◌∙◌, true, false, not, ◌&&◌, ◌||◌, List, eqb, leb, eqb-true, eqb-false, not-true, either, and_parts}
use Rattle.laws.proofs.Prelude.{or_parts, all_below, all_at, zero_or_one, bit}
use Rattle.position.proofs.Rules.{conduct, alice, bob, contract, is_party, holds, sender_has, sig_alice, secret_alice, secret_bob, success, is_other, phase, late}
use Rattle.position.specs.declared.Position.{Position}
use Rattle.position.proofs.Rules.{alice_gives, bob_gives, may_give}
use Rattle.step_laws.proofs.Provenance.{Given, given}
use Rattle.claim_careful.proofs.Setting.{sheet, allowed}

-- how a key came to be held: Bob gave secret_bob, or Alice sig_alice
pub data Got (u : List ℕ) (p : Position) (party i : ℕ) : Type 0 where
  alice_got : party ≡ alice → i ≡ secret_bob → bit (sender_has (sheet u) p bob success contract) sig_alice ≡ true
      → late (sheet u) u p ≡ false → Got u p party i
  bob_got : party ≡ bob → i ≡ sig_alice → holds p alice secret_bob ≡ true → Got u p party i

-- the one signature of a mask of one bit
low_bit : (i : ℕ) → i < 4 → bit (2 ^ sig_alice) i ≡ true → i ≡ sig_alice
unfolding bit all_below
low_bit i l h = eqb-true i sig_alice (rw h at (all_at 4 (λ k. not (bit 1 k) || eqb k sig_alice) refl i l))

high_bit : (i : ℕ) → i < 4 → bit (2 ^ secret_bob) i ≡ true → i ≡ secret_bob
unfolding bit all_below
high_bit i l h = eqb-true i secret_bob (rw h at (all_at 4 (λ k. not (bit 8 k) || eqb k secret_bob) refl i l))

-- "the other party"
other : (s : List ℕ) (giver party : ℕ) → is_other s giver party ≡ true → party ≡ giver → ⊥
unfolding is_other
other s giver party o = eqb-false party giver (not-true (eqb party giver) (and_parts (is_party s party) (not (eqb party giver)) o).1)

not_alice : (s : List ℕ) (giver party : ℕ) → is_other s giver party ≡ true → party < 2 → giver ≡ alice → party ≡ bob
not_alice s giver party o l e = either (zero_or_one party l) (λ y. absurd (other s giver party o (y ∙ sym e))) (λ y. y)

not_bob : (s : List ℕ) (giver party : ℕ) → is_other s giver party ≡ true → party < 2 → giver ≡ bob → party ≡ alice
not_bob s giver party o l e = either (zero_or_one party l) (λ y. y) (λ y. absurd (other s giver party o (y ∙ sym e)))

module _ (u : List ℕ) (c : conduct u ≡ 2) where
  gives_alice : (p : Position) (j : ℕ) → alice_gives (sheet u) u p j ≡ true → (j ≡ sig_alice) × (holds p alice secret_bob ≡ true)
  unfolding alice_gives
  gives_alice p j h =
      let x = holds p alice secret_bob && not (late (sheet u) u p) in
      let b = and_parts (eqb j sig_alice) x (and_parts (eqb (phase p) 3) (eqb j sig_alice && x) h).1 in
      (eqb-true j sig_alice b.0, (and_parts (holds p alice secret_bob) (not (late (sheet u) u p)) b.1).0)

  gives_bob : (p : Position) (j : ℕ) → bob_gives (sheet u) u p j ≡ true
      → (j ≡ secret_bob) × (bit (sender_has (sheet u) p bob success contract) sig_alice ≡ true) × (late (sheet u) u p ≡ false)
  unfolding bob_gives
  gives_bob p j h =
      let l = late (sheet u) u p in
      let m = sender_has (sheet u) p bob success contract in
      let x = not (bit m secret_alice) && not l in
      let a = and_parts (eqb j secret_bob) (bit m sig_alice && x) (and_parts (leb 2 (phase p)) (eqb j secret_bob && (bit m sig_alice && x)) h).1 in
      let b = and_parts (bit m sig_alice) x a.1 in
      (eqb-true j secret_bob a.0, b.0, not-true l (and_parts (not (bit m secret_alice)) (not l) b.1).1)

  pub got : (p : Position) (party i : ℕ) → party < 2 → i < 4 → Given (sheet u) u p party i → Got u p party i
  unfolding may_give
  got p party i l n (given giver j o h b) =
      either (or_parts (eqb giver alice && alice_gives (sheet u) u p j) (eqb giver bob && bob_gives (sheet u) u p j) (allowed u c (may_give (sheet u) u p giver j) h))
      (λ y.
      let w = and_parts (eqb giver alice) (alice_gives (sheet u) u p j) y in
      let r = gives_alice p j w.1 in
      bob_got (not_alice (sheet u) giver party o l (eqb-true giver alice w.0)) (low_bit i n (rw r.0 at b)) r.1)
      (λ y.
      let w = and_parts (eqb giver bob) (bob_gives (sheet u) u p j) y in
      let r = gives_bob p j w.1 in
      alice_got (not_bob (sheet u) giver party o l (eqb-true giver bob w.0)) (high_bit i n (rw r.0 at b)) r.1 r.2)
