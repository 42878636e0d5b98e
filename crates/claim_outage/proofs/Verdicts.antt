-- What each byte of a verdict promises, from the claims about soonest deadlines and the pool.
-- Assumes nothing.
use Rattle.laws.proofs.Prelude.{ℕ, ◌+◌, ◌<◌, ◌≡◌, true, false, List, inl, inr, eqb, leb, eqb-true, eqb-false, ltb-true, leb-true, leb-false, lt-ltb, le-ltb, le-leb}
use Rattle.laws.proofs.Prelude.{arith, split, either, and_parts, or_parts}
use Rattle.position.proofs.Rules.{accepted, count, parent, opening, sheet_refusal, stealth, setup_refusal, has_parent, in_pool, is_confirmed, block_of, deadline_in}
use Rattle.position.specs.declared.Position.{Position}
use Rattle.position.proofs.Rules.{FourBytes, play}
use Rattle.sheet.proofs.Theorems.{sheet_checked, setup_checked}
use Rattle.claim_ledger.proofs.Sound.{Sound}
use Rattle.call_outage.specs.Verdict.{soonest_deadline_in, is_settled, is_safe, is_covered, is_passed, exposed, verdict}
use Rattle.claim_outage.specs.Claim.{NoneLater, Promise, clear, settled, safe, covered, passed, late}
use Rattle.claim_outage.proofs.Between.{below, any_list}
use Rattle.claim_ledger.proofs.Standing.{Stands}
use Rattle.claim_outage.proofs.Pools.{Pooled}
use Rattle.claim_outage.proofs.Pool.{Early, fate_play}

-- in the pool, and the parent is confirmed or there is none
safe_parts : (s : List ℕ) (p : Position) (t : ℕ) → is_safe s p t ≡ true → (in_pool p t ≡ true) × Stands s p t
unfolding is_safe has_parent is_confirmed
safe_parts s p t h =
    let w = and_parts (in_pool p t) (has_parent s (is_confirmed p) t) h in
    (w.0, either (or_parts (opening s t) (is_confirmed p (parent s t)) w.1) inl (λ y. inr (ltb-true 0 (block_of p (parent s t)) y)))

module _ (s u : List ℕ) (h : sheet_refusal s ≡ accepted) (k : setup_refusal s u ≡ accepted) (p : Position) (g : Sound s u p) (e : Early s u p)
    (in_pool_lem : Pooled s u p) (blocks t : ℕ) (l : t < count s) where
  abbrev D : ℕ
  D = soonest_deadline_in s u p t

  not_reached : (next : List FourBytes) → (play s u next p).mined < D
      → NoneLater s u (play s u next p) t × ((play s u next p).mined < deadline_in s u (play s u next p) t)
  not_reached next m =
      let w = any_list s u h k p next g t l in
      let r = w.deadline_rises in
      let b = (below s u (sheet_checked s h) (play s u next p) t l).below in
      (w.none_until (omega arith), omega arith)

  -- one that is neither settled nor safe, by its deadline
  by_deadline : is_settled s p t ≡ false → Promise s u p blocks t (exposed p.mined blocks (stealth u) D)
  unfolding exposed is_covered is_passed
  by_deadline n =
      split (leb D p.mined)
      (λ y.
      let past = leb-true D p.mined y in
      let flag = (setup_checked s u k).stealth_flag in
      rw (y, le-leb D (p.mined + blocks) (omega arith), le-ltb p.mined D past)
      (split (eqb (stealth u) 1)
      (λ z. rw z (late n past (eqb-true (stealth u) 1 z)))
      (λ z. rw z (passed n past (omega (arith, eqb-false (stealth u) 1 z, flag))))))
      (λ y.
      let early = leb-false D p.mined y in
      rw (y, lt-ltb p.mined D early)
      (split (leb D (p.mined + blocks))
      (λ z. rw z (covered n early (leb-true D (p.mined + blocks) z)))
      (λ z. let c = leb-false D (p.mined + blocks) z in rw z (clear n c (λ next m. not_reached next (omega arith))))))

  pub promise : Promise s u p blocks t (verdict s u p blocks t)
  unfolding verdict
  promise =
      split (is_settled s p t)
      (λ y. rw y (settled y))
      (λ n.
      rw n
      (split (is_safe s p t)
      (λ y. let w = safe_parts s p t y in rw y (safe n (λ next. fate_play s u h k next p g e in_pool_lem t l w.0 w.1)))
      (λ y. rw y (by_deadline n))))
