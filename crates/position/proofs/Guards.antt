-- Conduct over the guards of a position is that of the rules.
-- Assumes nothing.
use Rattle.laws.proofs.Prelude.{ℕ, ◌<◌, ◌≡◌, refl, sym, ap, ◌∙◌, Bool, true, false, not, ◌&&◌, ◌||◌, and-false, List, eqb, ltb, length, eqb-true, ne_eqb, arith}
use Rattle.laws.proofs.Prelude.{and-true, split, any_below, any_same, bit}
use mathlib.Core.Bool.{not-not}
use Rattle.sheet.specs.Field.{count}
use Rattle.sheet.specs.Setup.{conduct}
use Rattle.sheet.specs.Checked.{Checked}
use Rattle.slots.specs.Slot.{standing, shared_for}
use Rattle.slots.specs.Destination.{alice, bob, contract, is_payee, is_contract}
use Rattle.steps.specs.declared.View.{View}
use Rattle.steps.specs.declared.Guards.{Guards}
use Rattle.steps.specs.Names.{secret_bob, success, refund1}
use Rattle.steps.specs.Forms.View.{sender_in}
use Rattle.steps.specs.Forms.Conduct.{share_allowed_in, give_allowed_in, send_allowed_in, send_held_in}
use Rattle.steps.specs.Forms.Sending.{pays_in}
use Rattle.position.specs.declared.Position.{Position}
use Rattle.position.specs.Position.{slot, in_pool, block_of, is_confirmed, sent, shared, keys, holds}
use Rattle.position.specs.Forms.View.{view_below, since_in}
use Rattle.position.specs.Forms.Guards.{open_guards, guards, send_guards}
use Rattle.position.specs.Conduct.{is_open, is_careful, phase, late, success_unshared, alice_shares, may_share, alice_gives, bob_gives, may_give, secret_safe, safe_to_send, send_allowed, paying_passes, can_pay, paying_first}
use Rattle.sheet.specs.Checked.{Fit}
use Rattle.position.proofs.Fits.{named}
use Rattle.position.proofs.SendTests.{sender_view, since_parent_lem, pool_tests_lem, miner_tests_lem}

-- where conduct is followed, the sheet has success
pub success_there : {s u : List ℕ} → Fit s u → (way : ℕ) → way ≡ conduct u → (way ≡ 0 → ⊥) → success < count s
unfolding is_open
success_there {s} {u} fit way e f = let n = named fit.setup (ne_eqb (conduct u) 0 (λ z. f (e ∙ z))) in omega (arith, n)

module _ (s u : List ℕ) (p : Position) where
  pub careful_guards : (guards s u p).careful ≡ is_careful u
  unfolding guards open_guards is_open is_careful
  careful_guards = split (eqb (conduct u) 0) (λ y. rw (y, eqb-true (conduct u) 0 y)) (λ y. rw y)

  pub share_guards : (party t : ℕ) → share_allowed_in (guards s u p) party t ≡ (is_open u || may_share s u p party t)
  unfolding guards open_guards share_allowed_in may_share alice_shares
  share_guards party t = split (is_open u) (λ y. rw y) (λ y. rw y)

  pub give_guards : (party i : ℕ) → give_allowed_in (guards s u p) party i ≡ (is_open u || may_give s u p party i)
  unfolding guards open_guards give_allowed_in may_give alice_gives bob_gives
  give_guards party i = split (is_open u) (λ y. rw y) (λ y. rw y)

  -- of what sends ask for, and of the whole
  pub send_guards_lem : (party t : ℕ) → send_allowed_in s (send_guards u p) party t ≡ send_allowed s u p party t
  unfolding send_guards send_allowed_in send_allowed safe_to_send secret_safe
  send_guards_lem party t = refl

  whole_sends : (party t : ℕ) → send_allowed_in s (guards s u p) party t ≡ send_allowed_in s (send_guards u p) party t
  unfolding guards open_guards send_guards send_allowed_in
  whole_sends party t = split (is_open u) (λ y. rw y) (λ y. rw y)

  -- `paying` says that the party is careful and can send a transaction that pays it
  pub held_guards : (paying : Bool) (party t : ℕ) → paying ≡ (is_careful u && can_pay s u p party)
      → send_held_in s (guards s u p) paying party t ≡ (send_allowed s u p party t && paying_first s u p party t)
  unfolding send_held_in paying_first
  held_guards paying party t e =
      rw (whole_sends party t, send_guards_lem party t, e)
      (ap (λ x. send_allowed s u p party t && x)
      (split (is_careful u)
      (λ y. split (is_contract s t) (λ z. rw (y, z, paying_first, and-true (can_pay s u p party))) (λ z. rw (y, z, paying_first, and-false (can_pay s u p party))))
      (λ y. rw (y, paying_first))))

  -- of one transaction, and of any
  pub pays_guards : Checked s → length p.slots ≡ 32 → (party t : ℕ) → t < count s
      → pays_in (send_allowed_in s (send_guards u p) party t) s u (view_below s (count s) p) (slot p t) (since_in s p t) party t
      ≡ elim (is_payee s t party) [ true ↦ paying_passes s u p party t | false ↦ false ]
  unfolding pays_in paying_passes
  pays_guards ok n party t l =
      split (is_payee s t party)
      (λ y.
      rw (
        y,
        send_guards_lem party t,
        since_parent_lem s p n t,
        pool_tests_lem (send_allowed s u p party t) s u p ok party t party l,
        miner_tests_lem (send_allowed s u p party t) s u p ok party t party l,
      ))
      (λ y. rw y)

  pub any_pays : Checked s → length p.slots ≡ 32 → (party : ℕ)
      → any_below (count s) (λ t. pays_in (send_allowed_in s (send_guards u p) party t) s u (view_below s (count s) p) (slot p t) (since_in s p t) party t)
      ≡ can_pay s u p party
  unfolding can_pay
  any_pays ok n party =
      any_same (count s)
      (λ t. pays_in (send_allowed_in s (send_guards u p) party t) s u (view_below s (count s) p) (slot p t) (since_in s p t) party t)
      (λ t. elim (is_payee s t party) [ true ↦ paying_passes s u p party t | false ↦ false ])
      (pays_guards ok n party)

  -- the guards from their parts, where conduct is followed
  pub guards_made : (v : View) (way ph has : ℕ) (l sends knows : Bool) → way ≡ conduct u → (way ≡ 0 → ⊥) → ph ≡ phase p → l ≡ late s u p
      → sends ≡ (standing (slot p refund1).pool || ltb 0 (slot p refund1).height) → knows ≡ bit (keys p alice) secret_bob
      → v ≡ view_below s (count s) p → has ≡ sender_in s v (slot p success) bob contract
      → record { free = false; careful = eqb way 2; phase = ph; late = l; refund = sends; unshared = eqb (slot p success).contract 0; knows = knows; bob_has = has }
      ≡ guards s u p
  unfolding guards is_open is_careful success_unshared shared shared_for sent in_pool is_confirmed block_of holds keys
  guards_made v way ph has l sends knows e f a b c d g h =
      let n = ne_eqb (conduct u) 0 (λ z. f (e ∙ z)) in
      let w = h ∙ ap (λ (x : View). sender_in s x (slot p success) bob contract) g ∙ sender_view s p bob success contract in
      rw (n, e, a, b, c, d, w)

-- what sends ask for, from its parts
pub send_guards_made : (u : List ℕ) (p : Position) (way ph : ℕ) (knows : Bool) → way ≡ conduct u → ph ≡ phase p → knows ≡ bit (keys p alice) secret_bob
    → record { free = eqb way 0; careful = eqb way 2; phase = ph; late = false; refund = false; unshared = eqb (slot p success).contract 0; knows = knows; bob_has = 0 }
    ≡ send_guards u p
unfolding send_guards is_open is_careful success_unshared shared shared_for holds keys
send_guards_made u p way ph knows e a d = rw (e, a, d)

-- what is asked of each transaction, with guards and a view at hand
module _ (s u : List ℕ) (p : Position) (v : View) (o : Guards) (party : ℕ) where
  unfoldable pub pays_at : ℕ → Bool
  pays_at t = pays_in (send_allowed_in s o party t) s u v (slot p t) (since_in s p t) party t

  module _ (fit : Fit s u) (slots : length p.slots ≡ 32) (view : v ≡ view_below s (count s) p) (read : o ≡ send_guards u p) where
    pub all_paid : any_below (count s) pays_at ≡ can_pay s u p party
    unfolding pays_at
    all_paid = rw (view, read) (any_pays s u p fit.checked slots party)

-- a party that is held back: `first` says that it is to pay first if it can; and a send by who may send and by paying first
module _ (s u : List ℕ) (p : Position) (party t : ℕ) where
  module _ (first : Bool) (is : first ≡ (is_careful u && is_contract s t)) where
    pub not_held : first ≡ false → false ≡ not (paying_first s u p party t)
    unfolding paying_first
    not_held h = rw (paying_first, sym is ∙ h)

    pub held_if_paid : (b : Bool) → first ≡ true → b ≡ can_pay s u p party → b ≡ not (paying_first s u p party t)
    unfolding paying_first
    held_if_paid b h k = rw (paying_first, sym is ∙ h) (k ∙ sym (not-not (can_pay s u p party)))

  pub send_held : (may paying r : Bool) → may ≡ send_allowed s u p party t → paying ≡ not (paying_first s u p party t) → r ≡ (may && not paying)
      → r ≡ (send_allowed s u p party t && paying_first s u p party t)
  send_held may paying r a b h = h ∙ rw (a, b, not-not (paying_first s u p party t))
