-- What is found from what was read is what can come.
-- Assumes nothing.
use Rattle.laws.proofs.Prelude.{ℕ, zero, suc, ◌-◌, ◌≤◌, ◌<◌, ◌≡◌, refl, sym, ◌∙◌, Bool, true, false, not, ◌&&◌, ◌||◌, List, ◌⊎◌, inl, inr, eqb, ltb, ltb-true, ne_eqb}
use Rattle.laws.proofs.Prelude.{not-true, arith, bit_and, bit_or, pick, split, either, clash, and_parts, or_parts, or_right, any_below, any_some, any_found, bit, bit_or_lem}
use Rattle.laws.proofs.Prelude.{bit_and_lem, or_bit, union_bit, set_below, set_bit, set_same, set_small, bit_outside}
use Rattle.position.proofs.Rules.{count, parent, opening, Checked, destinations, has_parent, sends_to, is_confirmed}
use Rattle.position.specs.declared.Position.{Position}
use Rattle.laws.specs.Unions.{union_same}
use Rattle.slots.proofs.Parents.{parent_below}
use Rattle.position.proofs.SendTests.{has_parent_set}
use Rattle.attainable.specs.declared.Others.{Others}
use Rattle.attainable.specs.Attainable.{gone, secrets_of, shown_by, waits_for, comes, attainable, Closed}
use Rattle.attainable.specs.Forms.Others.{nowhere, waits_apart, sends_apart, Reads}
use Rattle.attainable.specs.Forms.Round.{signs_in, signers, can_of, reach_in, reach_set, shown_at, shown_in, asked_in, asked_elsewhere}
use Rattle.attainable.proofs.Masks.{union_has, or_left, or_last}
use Rattle.attainable.proofs.Parts.{Way, waits, lent, signs, Parent, comes_parts, comes_from, parent_from, picked_bit}
use Rattle.attainable.proofs.Rounds.{least, attained_comes, attained_set}
use Rattle.attainable.proofs.Lacking.{both_ways}
use Rattle.attainable.proofs.Reaching.{reach_step, reach_turn}
use Rattle.attainable.proofs.Signing.{shown_of, signs_to, signs_from}

-- t waits or is lent, for d
abbrev Asked : List ℕ → Position → ℕ → ℕ → ℕ → ℕ → Type 0
Asked s p x also t d = (waits_for p t d ≡ true) ⊎ ((bit also t ≡ true) × (sends_to s x t d ≡ true))

-- the set of those that wait or are lent for a destination other than `off`
module _ (s : List ℕ) (few : count s ≤ 32) (p : Position) (x also off waiting sending : ℕ)
    (ew : waiting ≡ set_below (count s) (waits_apart p off)) (es : sending ≡ set_below (count s) (sends_apart s x off)) (t : ℕ) (l : t < count s) where
  asked_from : (d : ℕ) → d < destinations → eqb d off ≡ false → Asked s p x also t d → bit (bit_or waiting (bit_and also sending)) t ≡ true
  unfolding waits_apart sends_apart
  asked_from d m n h =
      let wait : ℕ → Bool = λ e. not (eqb e off) && waits_for p t e in
      let send : ℕ → Bool = λ e. not (eqb e off) && sends_to s x t e in
      either h
      (λ y. or_left waiting (bit_and also sending) t (rw ew (set_bit (count s) (waits_apart p off) few t l ∙ any_found destinations d wait m (rw (n, y)))))
      (λ y.
      or_last waiting (bit_and also sending) t
      (bit_and_lem also sending t
      ∙ rw (y.0, es) (set_bit (count s) (sends_apart s x off) few t l ∙ any_found destinations d send m (rw (n, y.1)))))

  asked_to : bit (bit_or waiting (bit_and also sending)) t ≡ true → (d : ℕ) × (d < destinations) × ((not (eqb d off) ≡ true) × Asked s p x also t d)
  unfolding waits_apart sends_apart
  asked_to h =
      let wait : ℕ → Bool = λ e. not (eqb e off) && waits_for p t e in
      let send : ℕ → Bool = λ e. not (eqb e off) && sends_to s x t e in
      either (or_bit waiting (bit_and also sending) t h)
      (λ y.
      let w = any_some destinations wait (sym (set_bit (count s) (waits_apart p off) few t l) ∙ rw ew at y) in
      let v = and_parts (not (eqb w.0 off)) (waits_for p t w.0) w.2 in
      (w.0, w.1, (v.0, inl v.1)))
      (λ y.
      let b = and_parts (bit also t) (bit sending t) (sym (bit_and_lem also sending t) ∙ y) in
      let w = any_some destinations send (sym (set_bit (count s) (sends_apart s x off) few t l) ∙ rw es at b.1) in
      let v = and_parts (not (eqb w.0 off)) (sends_to s x t w.0) w.2 in
      (w.0, w.1, (v.0, inr (b.0, v.1))))

module _ (s u : List ℕ) (ok : Checked s) (p : Position) (x also : ℕ) (o : Others) (r : Reads s u p x o) where
  abbrev few : count s ≤ 32
  few = ok.sized.few

  abbrev all : ℕ
  all = attainable s u p x (bit also)

  gone_bit : (t : ℕ) → t < count s → bit o.gone t ≡ gone s p t
  gone_bit t l = rw r.gone (set_bit (count s) (gone s p) few t l)

  confirmed_bit : (t : ℕ) → t < count s → bit o.confirmed t ≡ is_confirmed p t
  confirmed_bit t l = rw r.confirmed (set_bit (count s) (is_confirmed p) few t l)

  -- the secrets of a set by the table
  pub shown_of_lem : (members : ℕ) → shown_in s o.shows members ≡ shown_of s members
  unfolding shown_in shown_at shown_by
  shown_of_lem members =
      union_same (count s) (shown_by s members) (shown_at o.shows members)
      (λ t l. rw (r.shows.each t l))

  shown_more : (a b : ℕ) → ((t : ℕ) → t < count s → bit a t ≡ true → bit b t ≡ true) → (i : ℕ) → bit (shown_of s a) i ≡ true → bit (shown_of s b) i ≡ true
  unfolding shown_by
  shown_more a b h i y =
      let w = union_bit (count s) (shown_by s a) i y in
      let z = picked_bit (bit a w.0) (secrets_of s w.0) i w.2 in
      union_has (count s) (shown_by s b) i w.0 w.1 (rw (h w.0 w.1 z.0) z.1)

  -- no destination's number
  apart : (d : ℕ) → d < destinations → eqb d nowhere ≡ false
  apart d m = ne_eqb d nowhere (λ e. omega (arith, m, e))

  -- the set that is found with some secrets
  module _ (secrets : ℕ) (small : secrets < 256) where
    abbrev can : ℕ
    can = can_of s o (asked_in o also) secrets

    abbrev found : ℕ
    found = reach_set s o.confirmed can

    can_bit : (t : ℕ) → t < count s → bit can t ≡ ((bit (asked_in o also) t || signs_in o secrets t) && not (bit o.gone t))
    unfolding can_of signers
    can_bit t l =
        let small : o.gone < 4294967296 = rw r.gone (set_small 32 (count s) (gone s p) few) in
        bit_and_lem (bit_or (asked_in o also) (signers s o secrets)) (4294967295 - o.gone) t
        ∙ rw (bit_or_lem (asked_in o also) (signers s o secrets) t, set_bit (count s) (signs_in o secrets) few t l, bit_outside o.gone t small (omega (arith, l, few)))

    found_bit : (t : ℕ) → t < count s → bit found t ≡ reach_in s o.confirmed can t
    unfolding reach_set
    found_bit t l = set_bit (count s) (reach_in s o.confirmed can) few t l

    -- where it shows no more than these, whatever comes by it is in it
    module _ (shown : (i : ℕ) → bit (shown_of s found) i ≡ true → bit secrets i ≡ true) where
      by_way : (t : ℕ) → t < count s → (d : ℕ) → d < destinations → Way s u p x (bit also) found t d → (bit (asked_in o also) t || signs_in o secrets t) ≡ true
      unfolding asked_in
      by_way t l d m (waits h) =
          rw (asked_from s few p x also nowhere o.waits o.sends r.waits r.sends t l d m (apart d m) (inl h))
      by_way t l d m (lent a h) =
          rw (asked_from s few p x also nowhere o.waits o.sends r.waits r.sends t l d m (apart d m) (inr (a, h)))
      by_way t l d m (signs n a b h) =
          or_right (bit (asked_in o also) t) (signs_in o secrets t)
          (signs_from s u p x found secrets t small o r l shown d m (record { sent = n; goes = a; apart = b; enough = h }))

      there : (k : ℕ) → k < count s → bit (bit_or o.confirmed found) k ≡ (is_confirmed p k || bit found k)
      there k l = bit_or_lem o.confirmed found k ∙ rw (confirmed_bit k l)

      closed : Closed s u p x (bit also) found
      unfolding reach_set
      closed t l d m c =
          let k = comes_parts s u p x (bit also) found t d c in
          let up : has_parent s (bit (bit_or o.confirmed found)) t ≡ true =
          has_parent_set s (bit_or o.confirmed found) (λ j. is_confirmed p j || bit found j) there t ok l
          ∙ parent_from s u p x (bit also) found t d k.below in
          let mine : bit can t ≡ true = can_bit t l ∙ rw (gone_bit t l, k.live, by_way t l d m k.way) in
          found_bit t l ∙ sym (reach_turn s ok o.confirmed can (count s) found t true refl few l (omega (arith, l)) (rw (mine, up)))

    -- where these are shown by what can come, it is within that
    module _ (shown : (i : ℕ) → bit secrets i ≡ true → bit (shown_of s all) i ≡ true) where
      way_all : (t : ℕ) → t < count s → (bit (asked_in o also) t || signs_in o secrets t) ≡ true → (d : ℕ) × (d < destinations) × Way s u p x (bit also) all t d
      unfolding asked_in
      way_all t l h =
          either (or_parts (bit (asked_in o also) t) (signs_in o secrets t) h)
          (λ y.
          let w = asked_to s few p x also nowhere o.waits o.sends r.waits r.sends t l y in
          either w.2.1 (λ z. (w.0, w.1, waits z)) (λ z. (w.0, w.1, lent z.0 z.1)))
          (λ y.
          let w = signs_to s u p x all secrets t small o r l shown y in
          (w.0, w.1, signs w.2.sent w.2.goes w.2.apart w.2.enough))

      -- the parent of t, where those above t are known
      parent_all : (t : ℕ) → t < count s → (parent s t < t → reach_in s o.confirmed can (parent s t) ≡ true → bit all (parent s t) ≡ true)
          → (has_parent s (bit o.confirmed) t || pick (ltb (parent s t) t) (reach_in s o.confirmed can (parent s t)) false) ≡ true → Parent s p all t
      unfolding has_parent
      parent_all t l known h =
          split (opening s t)
          inl
          (λ e.
          either (or_parts (bit o.confirmed (parent s t)) _ (rw e at h))
          (λ y. inr (inl (sym (confirmed_bit (parent s t) (parent_below ok t l e)) ∙ y)))
          (λ y.
          split (ltb (parent s t) t)
          (λ b. inr (inr (known (ltb-true (parent s t) t b) (rw b at y))))
          (λ b. clash {b = false} (rw b at y) refl)))

      inside : (n t : ℕ) → t < n → t < count s → reach_in s o.confirmed can t ≡ true → bit all t ≡ true
      inside zero t a l h = absurd (omega (arith, a))
      inside (suc n) t a l h =
          let z = and_parts (bit can t) _ (sym (reach_step s ok o.confirmed can t) ∙ h) in
          let c = and_parts (bit (asked_in o also) t || signs_in o secrets t) (not (bit o.gone t)) (sym (can_bit t l) ∙ z.0) in
          let w = way_all t l c.0 in
          let live : gone s p t ≡ false = sym (gone_bit t l) ∙ not-true (bit o.gone t) c.1 in
          let below = parent_all t l (λ b y. inside n (parent s t) (omega (arith, a, b)) (omega (arith, l, b)) y) z.1 in
          (least s u ok p x (bit also)).closed t l w.0 w.1
          (comes_from s u p x (bit also) all t w.0 (record { live = live; below = below; way = w.2 }))

      within : (t : ℕ) → t < count s → bit found t ≡ true → bit all t ≡ true
      within t l h = inside (suc t) t (omega arith) l (sym (found_bit t l) ∙ h)

      pub shown_within : (i : ℕ) → bit (bit_or secrets (shown_in s o.shows found)) i ≡ true → bit (shown_of s all) i ≡ true
      shown_within i h =
          either (or_bit secrets (shown_in s o.shows found) i h)
          (shown i)
          (λ y. shown_more found all within i (rw (shown_of_lem found) at y))

      pub found_all : bit_or secrets (shown_in s o.shows found) ≡ secrets → found ≡ all
      unfolding reach_set
      found_all e =
          let more : (i : ℕ) → bit (shown_of s found) i ≡ true → bit secrets i ≡ true =
          λ i y. rw e at (or_last secrets (shown_in s o.shows found) i (rw (shown_of_lem found) y)) in
          set_same (count s) (reach_in s o.confirmed can) (bit all)
          (λ t l.
          both_ways (reach_in s o.confirmed can t) (bit all t)
          (λ y. inside (suc t) t (omega arith) l y)
          (λ y. sym (found_bit t l) ∙ (least s u ok p x (bit also)).least found (closed more) t l y))
          ∙ sym (attained_set s u ok p x (bit also))

  -- with a destination other than X: those of the set that wait, are lent or are signed for one
  module _ (secrets : ℕ) (small : secrets < 256) (exact : secrets ≡ shown_of s all) (t : ℕ) (l : t < count s) where
    abbrev elsewhere : ℕ → Bool
    elsewhere d = not (eqb d x) && comes s u p x (bit also) all t d

    way_for : (bit (asked_elsewhere o also) t || signs_in o secrets t) ≡ true → (d : ℕ) × (d < destinations) × ((not (eqb d x) ≡ true) × Way s u p x (bit also) all t d)
    unfolding asked_elsewhere
    way_for h =
        either (or_parts (bit (asked_elsewhere o also) t) (signs_in o secrets t) h)
        (λ y.
        let w = asked_to s few p x also x o.waits_elsewhere o.sends_elsewhere r.waits_elsewhere r.sends_elsewhere t l y in
        either w.2.1 (λ z. (w.0, w.1, (w.2.0, waits z))) (λ z. (w.0, w.1, (w.2.0, lent z.0 z.1))))
        (λ y.
        let w = signs_to s u p x all secrets t small o r l (λ i z. rw exact at z) y in
        (w.0, w.1, (rw w.2.apart refl, signs w.2.sent w.2.goes w.2.apart w.2.enough)))

    for_way : (d : ℕ) → d < destinations → eqb d x ≡ false → Way s u p x (bit also) all t d → (bit (asked_elsewhere o also) t || signs_in o secrets t) ≡ true
    unfolding asked_elsewhere
    for_way d m n (waits h) =
        rw (asked_from s few p x also x o.waits_elsewhere o.sends_elsewhere r.waits_elsewhere r.sends_elsewhere t l d m n (inl h))
    for_way d m n (lent a h) =
        rw (asked_from s few p x also x o.waits_elsewhere o.sends_elsewhere r.waits_elsewhere r.sends_elsewhere t l d m n (inr (a, h)))
    for_way d m n (signs e a b h) =
        or_right (bit (asked_elsewhere o also) t) (signs_in o secrets t)
        (signs_from s u p x all secrets t small o r l (λ i z. rw exact z) d m (record { sent = e; goes = a; apart = b; enough = h }))

    pub elsewhere_is : (bit all t && (bit (asked_elsewhere o also) t || signs_in o secrets t)) ≡ any_below destinations elsewhere
    elsewhere_is =
        both_ways (bit all t && (bit (asked_elsewhere o also) t || signs_in o secrets t)) (any_below destinations elsewhere)
        (λ y.
        let a = and_parts (bit all t) (bit (asked_elsewhere o also) t || signs_in o secrets t) y in
        let w = way_for a.1 in
        let z = attained_comes s u ok p x (bit also) t l a.0 in
        let k = comes_parts s u p x (bit also) all t z.0 z.2 in
        let c = comes_from s u p x (bit also) all t w.0 (record { live = k.live; below = k.below; way = w.2.1 }) in
        any_found destinations w.0 elsewhere w.1 (rw (w.2.0, c)))
        (λ y.
        let w = any_some destinations elsewhere y in
        let a = and_parts (not (eqb w.0 x)) (comes s u p x (bit also) all t w.0) w.2 in
        let k = comes_parts s u p x (bit also) all t w.0 a.1 in
        rw ((least s u ok p x (bit also)).closed t l w.0 w.1 a.1) (for_way w.0 w.1 (not-true (eqb w.0 x) a.0) k.way))
