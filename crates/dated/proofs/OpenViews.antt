-- What is open over a view, a slot and the parent's block is what is open in the position.
-- Assumes nothing.
use Rattle.laws.proofs.Prelude.{ℕ, ◌<◌, ◌≡◌, refl, sym, ap, ◌∙◌, Bool, true, false, not, List, eqb, leb, length, eqb-true, not-true, not-false, split, clash, any_below}
use Rattle.laws.proofs.Prelude.{bit, set_bit}
use Rattle.position.proofs.Rules.{parties, party_at, count, parent, per_day, never, lock_height, Checked, Slot, conflict_in, no_conflict, has_parent, shared_secrets, View}
use Rattle.position.proofs.Rules.{keys_in, slot, block_of, is_confirmed, keys, shared, sender_has, view_below, since_in}
use Rattle.position.specs.declared.Position.{Position}
use Rattle.steps.specs.Forms.View.{sender_in}
use Rattle.position.proofs.SendTests.{no_conflict_set, has_parent_set, since_parent_lem, lock_height_parent}
use Rattle.dated.specs.Opens.{at_hand, opens}
use Rattle.dated.specs.Dated.{first_open}
use Rattle.dated.specs.Forms.Opens.{at_hand_in, opens_in, stays, first_open_in}
use Rattle.dated.proofs.Conjunction.{second_fails, third_fails, fourth_fails, first_left}

module _ (s u : List ℕ) (p : Position) (ok : Checked s) (t : ℕ) (l : t < count s) where
  confirmed_bit : (k : ℕ) → k < count s → bit (view_below s (count s) p).confirmed k ≡ is_confirmed p k
  unfolding view_below
  confirmed_bit k m = set_bit (count s) (is_confirmed p) ok.sized.few k m

  at_hand_view : at_hand_in s (view_below s (count s) p) (slot p t) t ≡ at_hand s p t
  unfolding at_hand_in at_hand sender_in view_below keys_in sender_has keys shared_secrets shared
  at_hand_view = refl

  mined_view : (view_below s (count s) p).mined ≡ p.mined
  unfolding view_below
  mined_view = refl

  opens_view : opens_in s (per_day u) (view_below s (count s) p) (slot p t) (block_of p (parent s t)) t ≡ opens s u p t
  unfolding opens_in opens
  opens_view =
      rw (
        no_conflict_set s (view_below s (count s) p).confirmed (is_confirmed p) confirmed_bit t,
        has_parent_set s (view_below s (count s) p).confirmed (is_confirmed p) confirmed_bit t ok l,
        lock_height_parent s u p t,
        at_hand_view,
        mined_view,
      )

  -- where d, v, x and since are what the code found
  pub first_open_view : (d : ℕ) (v : View) (x : Slot) (since c : ℕ) → length p.slots ≡ 32 → d ≡ per_day u → v ≡ view_below s (count s) p
      → x ≡ slot p t → since ≡ since_in s p t → first_open_in s d v x since t c ≡ first_open s u p t c
  unfolding first_open_in first_open
  first_open_view d v x since c n ed ev ex ec = rw (ed, ev, ex, ec ∙ since_parent_lem s p n t, opens_view, mined_view)

-- the code's returns, over the tests of `opens_in`
module _ (s : List ℕ) (d : ℕ) (v : View) (x : Slot) (since t : ℕ) where
  abbrev rival : Bool
  rival = no_conflict s (bit v.confirmed) t

  abbrev above : Bool
  above = has_parent s (bit v.confirmed) t

  abbrev reached : Bool
  reached = leb (lock_height s d (λ k. since) t) v.mined

  abbrev some_signs : Bool
  some_signs = any_below (parties s) (λ k. at_hand_in s v x t (party_at k))

  without_parent : above ≡ false → false ≡ opens_in s d v x since t
  unfolding opens_in
  without_parent = second_fails rival above reached some_signs

  pub under_lock : above ≡ true → reached ≡ false → false ≡ opens_in s d v x since t
  unfolding opens_in
  under_lock = third_fails rival above reached some_signs

  pub unsigned : above ≡ true → reached ≡ true → some_signs ≡ false → false ≡ opens_in s d v x since t
  unfolding opens_in
  unsigned = fourth_fails rival above reached some_signs

  pub by_rival : (c : Bool) → c ≡ conflict_in s (bit v.confirmed) t → above ≡ true → reached ≡ true → some_signs ≡ true → not c ≡ opens_in s d v x since t
  unfolding opens_in no_conflict
  by_rival c e p r a = ap not e ∙ first_left rival above reached some_signs p r a

-- a count that stays, and one that may not
module _ (s : List ℕ) (v : View) (t c : ℕ) where
  stays_in_lem : (d : ℕ) (x : Slot) (since : ℕ) → stays s v t c ≡ true → first_open_in s d v x since t c ≡ c
  unfolding stays first_open_in
  stays_in_lem d x since h =
      split (eqb c never)
      (λ e. rw (e, sym (without_parent s d v x since t (not-true (has_parent s (bit v.confirmed) t) (rw e at h)))))
      (λ e. rw e)

  pub may_open : (b : Bool) → b ≡ stays s v t c → b ≡ false → (c ≡ never) × (has_parent s (bit v.confirmed) t ≡ true)
  unfolding stays
  may_open b f z =
      let h = sym f ∙ z in
      split (eqb c never)
      (λ e. (eqb-true c never e, not-false (has_parent s (bit v.confirmed) t) (rw e at h)))
      (λ e. clash refl (rw e at h))

  pub count_stays : (u : List ℕ) (p : Position) (b : Bool) → Checked s → t < count s → v ≡ view_below s (count s) p → length p.slots ≡ 32 → b ≡ stays s v t c → b ≡ true
      → first_open s u p t c ≡ c
  count_stays u p b ok l e n f h =
      sym (first_open_view s u p ok t l (per_day u) v (slot p t) (since_in s p t) c n refl e refl refl) ∙ stays_in_lem (per_day u) (slot p t) (since_in s p t) (sym f ∙ h)
