-- The open steps are the steps that decode and are accepted, and their bytes rise.
-- Assumes nothing.
use Rattle.laws.proofs.Prelude.{ℕ, ◌+◌, ◌-◌, ◌≤◌, ◌<◌, ◌≡◌, refl, sym, ap, true, List, ◌⊎◌, eqb, eqb-true, eq-eqb, lt-ltb, le-ltb, arith, List-as-Memᴰ, List·Memᴰ·head}
use Rattle.laws.proofs.Prelude.{List·Memᴰ·not-nil, split, either, gather}
use Rattle.position.proofs.Rules.{accepted, parties, place, count, signatures, Step, miner, destinations, Option, Some, None, slot_count, no_transaction}
use Rattle.position.specs.declared.Position.{Position}
use Rattle.position.proofs.Rules.{decode, step_refusal, actor_at, actors, kinds, if_accepted, open_at, open_of, actor_steps, open_steps}
use mathlib.Core.List.Memᴰ
use Rattle.laws.specs.Members.{gather_member, member_gather}
use Rattle.sheet.specs.Field.{is_party}
use Rattle.sheet.proofs.Parties.{place_below, at_place}
use Rattle.position.proofs.Decoding.{decodes, ranges}

module _ (s u : List ℕ) (p : Position) where
  -- x is open, and its bytes are these
  pub record IsOpen (k a t d : ℕ) (x : Step) : Type 0 where
    pub reads : decode s u k a t d ≡ Some x
    pub passes : step_refusal s u p x ≡ accepted

  open_alone : (x : Step) → step_refusal s u p x ≡ accepted → List-as-Memᴰ x (if_accepted s u p (Some x))
  unfolding if_accepted
  open_alone x h = rw (eq-eqb (step_refusal s u p x) accepted h) (List·Memᴰ·head refl)

  alone_open : (y : Option Step) (x : Step) → List-as-Memᴰ x (if_accepted s u p y) → (y ≡ Some x) × (step_refusal s u p x ≡ accepted)
  unfolding if_accepted
  alone_open (Some y) x m =
      split (eqb (step_refusal s u p y) accepted)
      (λ e.
      let q : x ≡ y = Memᴰ.eq_of_singleton (rw e at m) in
      (ap Some (sym q), rw q (eqb-true (step_refusal s u p y) accepted e)))
      (λ e. absurd (List·Memᴰ·not-nil (rw e at m)))
  alone_open None x m = absurd (List·Memᴰ·not-nil m)

  -- ---- what is open stands in the list
  at_destination : (k a t d : ℕ) (x : Step) → IsOpen k a t d x → d < destinations → List-as-Memᴰ x (open_at s u p a k t)
  unfolding open_at
  at_destination k a t d x o l =
      gather_member destinations d _ l (rw o.reads (open_alone x o.passes))

  of_kind_lem : (k a t d : ℕ) (x : Step) → IsOpen k a t d x → d < destinations → (t < slot_count) ⊎ (t ≡ no_transaction) → List-as-Memᴰ x (open_of s u p a k)
  unfolding open_of
  of_kind_lem k a t d x o l r =
      either r
      (λ m. Memᴰ.append_left _ (gather_member slot_count t _ m (at_destination k a t d x o l)))
      (λ e. Memᴰ.append_right (gather slot_count (open_at s u p a k)) (rw e at (at_destination k a t d x o l)))

  of_actor : (k a t d : ℕ) (x : Step) → IsOpen k a t d x → d < destinations → (t < slot_count) ⊎ (t ≡ no_transaction) → 1 ≤ k → k ≤ kinds → List-as-Memᴰ x (actor_steps s u p a)
  unfolding actor_steps
  of_actor k a t d x o l r low high =
      let back : k - 1 + 1 ≡ k = omega arith in
      gather_member kinds (k - 1) (λ j. open_of s u p a (j + 1)) (omega arith) (rw back (of_kind_lem k a t d x o l r))

  -- the actors, one after the other
  pub open_gathered : open_steps s u p ≡ gather (actors s) (λ k. actor_steps s u p (actor_at s k))
  unfolding open_steps
  open_gathered = refl

  -- an actor's place
  actor_place : (a : ℕ) → (is_party s a ≡ true) ⊎ (a ≡ miner) → (k : ℕ) × (k < actors s) × (actor_at s k ≡ a)
  unfolding actor_at
  actor_place a r =
      either r
      (λ y. let l = place_below s a y in (place a, omega (arith, l), rw (lt-ltb (place a) (parties s) l) (at_place s a y)))
      (λ y. (parties s, omega arith, rw (le-ltb (parties s) (parties s) (omega arith)) (sym y)))

  pub open_listed : (k a t d : ℕ) (x : Step) → count s ≤ 32 → signatures s ≤ 8 → IsOpen k a t d x → List-as-Memᴰ x (open_steps s u p)
  open_listed k a t d x few signed o =
      let w = decodes s u k a t d x o.reads in
      let r = ranges s u few signed x w.fields in
      let v = actor_place a (rw w.bytes at r.party) in
      rw open_gathered
      (gather_member (actors s) v.0 (λ j. actor_steps s u p (actor_at s j)) v.1
      (rw v.2 (of_actor k a t d x o w.destination_few (rw w.bytes at r.transaction) w.kind_some w.kind_few)))

  -- ---- what stands in the list is open
  pub alone_is : (k a t d : ℕ) (x : Step) → List-as-Memᴰ x (if_accepted s u p (decode s u k a t d)) → IsOpen k a t d x
  alone_is k a t d x m = let o = alone_open (decode s u k a t d) x m in record { reads = o.0; passes = o.1 }

  pub place_open : (k a t : ℕ) (x : Step) → List-as-Memᴰ x (open_at s u p a k t) → (d : ℕ) × IsOpen k a t d x
  unfolding open_at
  place_open k a t x m =
      let w = member_gather destinations (λ d. if_accepted s u p (decode s u k a t d)) m in
      (w.0, alone_is k a t w.0 x w.2)

  pub kind_open : (k a : ℕ) (x : Step) → List-as-Memᴰ x (open_of s u p a k) → (t : ℕ) × (d : ℕ) × IsOpen k a t d x
  unfolding open_of
  kind_open k a x m =
      either (Memᴰ.append_cases (gather slot_count (open_at s u p a k)) m)
      (λ l. let w = member_gather slot_count (open_at s u p a k) l in let o = place_open k a w.0 x w.2 in (w.0, o.0, o.1))
      (λ l. let o = place_open k a no_transaction x l in (no_transaction, o.0, o.1))

  pub actor_open : (a : ℕ) (x : Step) → List-as-Memᴰ x (actor_steps s u p a) → (k : ℕ) × (t : ℕ) × (d : ℕ) × IsOpen k a t d x
  unfolding actor_steps
  actor_open a x m =
      let w = member_gather kinds (λ j. open_of s u p a (j + 1)) m in
      let o = kind_open (w.0 + 1) a x w.2 in
      (w.0 + 1, o.0, o.1, o.2)

  pub listed_open : (x : Step) → List-as-Memᴰ x (open_steps s u p) → (k : ℕ) × (a : ℕ) × (t : ℕ) × (d : ℕ) × IsOpen k a t d x
  listed_open x m =
      let w = member_gather (actors s) (λ j. actor_steps s u p (actor_at s j)) (rw open_gathered at m) in
      let o = actor_open (actor_at s w.0) x w.2 in
      (o.0, actor_at s w.0, o.1, o.2, o.3)
