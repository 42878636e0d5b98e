-- What remains on the SASwap sheet, by what is confirmed: tests over the sets that can be confirmed together.
-- Assumes nothing.
use Rattle.laws.proofs.Prelude.{ℕ, ◌<◌, ◌≡◌, refl, Bool, true, false, not, ◌&&◌, ◌||◌, List, ◌⊎◌, eqb, Bool·beq, and_parts, beq_same, implied, all_below, any_below, all_at}
use Rattle.laws.proofs.Prelude.{bit, joined}
use Rattle.position.proofs.Rules.{Checked, saswap, per_day, is_contract, invalidated, coin_of, lock_a, lock_b, spend_b, spend_timeout, is_confirmed}
use Rattle.position.specs.declared.Position.{Position}
use Rattle.sheet.proofs.Theorems.{saswap_passes, sheet_checked}
use Rattle.position.proofs.Opened.{opened}
use Rattle.claim_ledger.proofs.Sound.{Sound}
use Rattle.claim_careful.proofs.Setting.{sheet}
use Rattle.claim_careful.proofs.Table.{fifteen, two}
use Rattle.claim_model.specs.Words.{remains, none_remains}
use Rattle.claim_model.proofs.States.{fits, all_states, confirmed_pass}

-- neither confirmed nor dead
unfoldable rest : List ℕ → (ℕ → Bool) → ℕ → Bool
rest s c t = not (c t) && not (invalidated s c t)

-- a transaction that pays from coin A is confirmed
unfoldable pub pays_from_a : List ℕ → (ℕ → Bool) → ℕ → Bool
pays_from_a s c t = eqb (coin_of s t) lock_a && (not (is_contract s t) && c t)

-- nothing remains exactly if such a one is, and spend_B
unfoldable ends : List ℕ → (ℕ → Bool) → Bool
ends s c = Bool·beq (not (any_below 15 (rest s c))) (any_below 15 (pays_from_a s c) && c spend_b)

-- with spend_timeout confirmed, lock_B and spend_B alone
unfoldable times_out : List ℕ → (ℕ → Bool) → Bool
times_out s c = not (c spend_timeout) || all_below 15 (λ t. not (rest s c t) || (eqb t lock_b || eqb t spend_b))

-- spend_B does unless it is confirmed
unfoldable unspent : List ℕ → (ℕ → Bool) → Bool
unspent s c = not (not (c spend_b)) || rest s c spend_b

unfoldable tested : List ℕ → (ℕ → Bool) → Bool
tested s c = ends s c && (times_out s c && unspent s c)

all_tested : (d : ℕ) → all_states (saswap d) 15 (λ m. tested (saswap d) (bit m)) ≡ true
unfolding opened fits all_states joined rest pays_from_a ends times_out unspent tested
all_tested d = refl

module _ (u : List ℕ) (p : Position) (g : Sound (sheet u) u p) where
  ok : Checked (sheet u)
  ok = sheet_checked (sheet u) (saswap_passes (per_day u))

  here : tested (sheet u) (is_confirmed p) ≡ true
  unfolding opened
  here = confirmed_pass (sheet u) u ok p g (tested (sheet u)) (all_tested (per_day u))

  parts : (ends (sheet u) (is_confirmed p) ≡ true) × (times_out (sheet u) (is_confirmed p) ≡ true) × (unspent (sheet u) (is_confirmed p) ≡ true)
  unfolding tested
  parts =
      let s = sheet u in
      let c = is_confirmed p in
      let a = and_parts (ends s c) (times_out s c && unspent s c) here in
      let b = and_parts (times_out s c) (unspent s c) a.1 in
      (a.0, b.0, b.1)

  pub none_remains_lem : none_remains (sheet u) p ≡ (any_below 15 (pays_from_a (sheet u) (is_confirmed p)) && is_confirmed p spend_b)
  unfolding none_remains remains rest ends
  none_remains_lem = rw (fifteen (per_day u)) (beq_same _ _ parts.0)

  pub remains_late : is_confirmed p spend_timeout ≡ true → (t : ℕ) → t < 15 → remains (sheet u) p t ≡ true → (t ≡ lock_b) ⊎ (t ≡ spend_b)
  unfolding remains rest times_out
  remains_late h t l r =
      let all : ℕ → Bool = λ k. not (remains (sheet u) p k) || (eqb k lock_b || eqb k spend_b) in
      let a = implied (is_confirmed p spend_timeout) (all_below 15 all) parts.1 h in
      two t lock_b spend_b (implied (remains (sheet u) p t) (eqb t lock_b || eqb t spend_b) (all_at 15 all a t l) r)

  pub spend_b_remains : is_confirmed p spend_b ≡ false → remains (sheet u) p spend_b ≡ true
  unfolding remains rest unspent
  spend_b_remains h = rw h (rw h at parts.2)
