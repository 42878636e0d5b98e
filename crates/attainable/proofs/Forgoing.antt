-- What a careful Alice no longer sends, by her guards.
-- Assumes nothing.
use Rattle.laws.proofs.Prelude.{ℕ, ◌≡◌, refl, sym, ◌∙◌, Bool, true, false, not, List, eqb, bit}
use Rattle.steps.specs.Forms.Conduct.{send_allowed_in}
use Rattle.steps.specs.Conduct.{may_send}
use Rattle.position.specs.declared.Position.{Position}
use Rattle.position.proofs.Rules.{Guards, conduct, alice, shared_for, slot, shared, keys, holds, secret_bob, success, is_careful, success_unshared, secret_safe, safe_to_send}
use Rattle.attainable.specs.Attainable.{forgone}
use Rattle.attainable.specs.Forms.Others.{alice_guards}

-- the guards from their parts
pub guards_made : (p : Position) (knows : Bool) → knows ≡ bit (keys p alice) secret_bob
    → record { free = false; careful = true; phase = 3; late = false; refund = false; unshared = eqb (slot p success).contract 0; knows = knows; bob_has = 0 }
    ≡ alice_guards p
unfolding alice_guards success_unshared shared shared_for holds keys
guards_made p knows e = rw e

-- in phase 3 she may send what is safe
pub guards_safe : (s : List ℕ) (p : Position) (t : ℕ) → send_allowed_in s (alice_guards p) alice t ≡ safe_to_send s p alice t
unfolding alice_guards send_allowed_in may_send safe_to_send secret_safe
guards_safe s p t = refl

pub guards_forgone : (s u : List ℕ) (p : Position) (g : Guards) (way t : ℕ) (r : Bool) → way ≡ conduct u → way ≡ 2 → g ≡ alice_guards p
    → r ≡ send_allowed_in s g alice t → not r ≡ forgone s u p t
unfolding forgone is_careful
guards_forgone s u p g way t r e two made h = rw (sym e ∙ two, h, made, guards_safe s p t)
