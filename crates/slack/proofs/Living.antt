-- What X counts on is not dead: in the same position, and in one that a step without X leads to.
-- Assumes nothing.
use Rattle.laws.proofs.Prelude.{ℕ, ◌≤◌, ◌<◌, ◌≡◌, true, false, ◌&&◌, List, eqb, eqb-true, eqb-false, arith, split, either, clash, and_parts, fails_by, any_found, bit, no_bit}
use Rattle.position.proofs.Rules.{count, parent, opening, payees, place, is_payee, is_contract, is_party, conflict, is_self_or_ancestor, is_confirmed, confirmed_to}
use Rattle.position.specs.declared.Position.{Position}
use Rattle.slots.proofs.Conflicts.{conflict_parts}
use Rattle.slots.proofs.Ancestors.{Above, here, up, above_le, above_all, ancestor_above, above_ancestor}
use Rattle.attainable.specs.Attainable.{gone}
use Rattle.slack.specs.Kept.{paid}
use Rattle.slack.proofs.Onward.{Alive}
use Rattle.slack.proofs.Ahead.{Forth}
use Rattle.slack.proofs.Fixed.{same_block}
use Rattle.slack.proofs.Parts.{stands_live, Free, free_parts}
use Rattle.slack.proofs.Dead.{gone_confirmed, gone_met, gone_find}

-- in the same position
pub alive_same : (s u : List ℕ) (p : Position) (x : ℕ) → Alive s u p p x
alive_same s u p x =
    record {
      stays = λ t l h. h;
      child = λ know off c l o h g. stands_live s u p x know off c h;
      line = λ know b off t w l m late f a n. stands_live s u p x know off w ((free_parts s u p x know b off t f).line w m a n).stood;
      unpaid = λ know b off t l f h. (free_parts s u p x know b off t f).fresh;
    }

-- a payee's transaction pays
pub payee_pays : (s : List ℕ) (t x : ℕ) → is_payee s t x ≡ true → is_contract s t ≡ false
unfolding is_payee is_contract
payee_pays s t x h =
    fails_by (eqb (payees s t) 0)
    (λ e.
    let b = (and_parts (is_party s x) (bit (payees s t) (place x)) h).1 in
    clash (rw (eqb-true (payees s t) 0 e) at b) (no_bit (place x)))

-- a confirmed transaction that pays X
pub paid_by : (s : List ℕ) (p : Position) (x t : ℕ) → t < count s → is_confirmed p t ≡ true → eqb (confirmed_to p t) x ≡ true → paid s p x ≡ true
unfolding paid
paid_by s p x t l c e = any_found (count s) t (λ k. is_confirmed p k && eqb (confirmed_to p k) x) l (rw (c, e))

module _ (s u : List ℕ) (p q : Position) (x : ℕ) (f : Forth s u p q x) where
  pub still_confirmed : (t : ℕ) → t < count s → is_confirmed p t ≡ true → is_confirmed q t ≡ true
  still_confirmed t l h = same_block p q t (f.stays t l h).0 h

  -- a rival of the line of c, whose parent is not gone: there is none
  none_above : (c h r : ℕ) → c < count s → opening s c ≡ false → gone s q (parent s c) ≡ false → Above s h c → r < count s → conflict s r h ≡ true
      → is_confirmed q r ≡ true → eqb r h ≡ false → ⊥
  none_above c h r l o g here m a y e =
      either (conflict_parts s r c a)
      (λ z. eqb-false r c e z)
      (λ z. clash (gone_confirmed s q (parent s c) (rw z.1 at (f.after.parents r m y z.0))) g)
  none_above c h r l o g (up n b) m a y e = clash (gone_met s q h (parent s c) r b m a y e) g

  child_lives : (c : ℕ) → c < count s → opening s c ≡ false → gone s q (parent s c) ≡ false → gone s q c ≡ false
  child_lives c l o g =
      fails_by (gone s q c)
      (λ y.
      split (is_confirmed q c)
      (λ z. clash (gone_confirmed s q (parent s c) (f.after.parents c l z o)) g)
      (λ z.
      let w = gone_find s q c y z in
      none_above c w.0 w.1 l o g w.2 w.3 w.4 w.5 w.6))

  line_lives : (know b off t w : ℕ) → t < count s → w < count s → p.mined ≤ off → Free s u p x know b off t → is_self_or_ancestor s w t ≡ true
      → is_confirmed q w ≡ false → gone s q w ≡ false
  line_lives know b off t w l m late g a n =
      fails_by (gone s q w)
      (λ y.
      let z = gone_find s q w y n in
      let h = z.0 in
      let r = z.1 in
      let on = above_all z.2 (ancestor_above s w t a) in
      let low : h < count s = omega (arith, above_le on, l) in
      let fresh : is_confirmed p h ≡ false =
      fails_by (is_confirmed p h)
      (λ v. eqb-false r h z.6 (f.after.alone h r low z.3 (still_confirmed h low v) z.5 z.4)) in
      let free = g.line h low (above_ancestor s on) fresh in
      let new : is_confirmed p r ≡ false =
      fails_by (is_confirmed p r) (λ v. clash (gone_met s p h h r here z.3 z.4 v z.6) (stands_live s u p x know off h free.stood)) in
      clash (f.in_the_way know b off h r low z.3 late free.stood z.4 z.6 new z.5) (free.alone r z.3))

  line_unpaid : (know b off t : ℕ) → t < count s → Free s u p x know b off t → paid s q x ≡ false → is_confirmed q t ≡ false
  line_unpaid know b off t l g n =
      fails_by (is_confirmed q t)
      (λ y.
      let free = g.line t l (above_ancestor s here) g.fresh in
      split (eqb (confirmed_to q t) x)
      (λ e. clash (paid_by s q x t l y e) n)
      (λ e. clash (f.pays_other know b off t l (payee_pays s t x g.payee) free.stood y e) (free.alone t l)))

  pub alive : Alive s u p q x
  alive =
      record {
        stays = still_confirmed;
        child = λ know off c l o h g. child_lives c l o g;
        line = λ know b off t w l m late g a n. line_lives know b off t w l m late (free_parts s u p x know b off t g) a n;
        unpaid = λ know b off t l g n. line_unpaid know b off t l (free_parts s u p x know b off t g) n;
      }
