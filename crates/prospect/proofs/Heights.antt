-- The tables of heights tell what a prospect's tables are to tell.
-- Assumes nothing.
use Rattle.laws.proofs.Prelude.{ℕ, ◌+◌, ◌*◌, ◌≤◌, ◌<◌, ◌≡◌, List, false, eqb, ltb, leb, get_or, arith}
use Rattle.sheet.specs.Field.{count}
use Rattle.sheet.specs.Setup.{stealth}
use Rattle.sheet.specs.LockHeight.{never}
use Rattle.sheet.specs.Checked.{Checked}
use Rattle.ledger.specs.Coin.{coin_of}
use Rattle.position.specs.declared.Position.{Position}
use Rattle.soonest.specs.Soonest.{greater}
use Rattle.soonest.specs.Forms.Table.{Filled}
use Rattle.attainable.specs.declared.Others.{Others}
use Rattle.attainable.specs.Forms.Others.{Reads}
use Rattle.slack.specs.Beaten.{above, stands, beats, last}
use Rattle.slack.specs.Kept.{known_at}
use Rattle.kept.specs.Forms.Prospect.{none, outlasts}
use Rattle.prospect.specs.declared.Marks.{Marks}
use Rattle.prospect.specs.Forms.Marks.{Marked, Comers}
use Rattle.prospect.specs.Forms.Tables.{Cells, beat_at, fails_at, ends_at}
use Rattle.prospect.specs.Forms.Until.{Lasts}
use Rattle.prospect.proofs.Cells.{cells_at}
use Rattle.prospect.proofs.Tells.{beat_tells, fails_tells, ends_tells, ends_small}

module _ (s u : List ℕ) (p : Position) (x : ℕ) (m : Marks) (ok : Checked s) (is : Marked s u p x m) (table : List ℕ) (t : ℕ) (l : t < count s) where
  -- t is a row of a table over the marks
  in_table : t < m.count
  in_table = rw is.count_is l

  pub fails_seen : Filled (λ k v. v ≡ fails_at m k) m.count table → (off : ℕ) → off < none → ltb off (get_or table t 0) ≡ stands s u p x (known_at s p x t) off t
  fails_seen h off small = rw (h.each t in_table) (fails_tells s u p x m ok is t l off small)

  module _ (h : Filled (λ k v. v ≡ ends_at m k) m.count table) where
    pub ends_seen : stealth u ≤ 1 → (off : ℕ) → off + 1 < never → greater off (get_or table t 0) + stealth u ≡ last s u p x (known_at s p x t) off t
    ends_seen flag off low = rw (h.each t in_table) (ends_tells s u p x m ok is t l flag off low)

    pub ends_low : get_or table t 0 ≤ never
    ends_low = rw (h.each t in_table) (ends_small s u p x m ok is t l)

  module _ (k : ℕ) (j : k < count s) (off : ℕ) (small : off < none) where
    pub beat_seen : (come : List ℕ) → Filled (λ r c. Comers s u p x 0 r c) (count s) come → Cells (λ r i v. v ≡ beat_at m (get_or come r 0) r i) (32 * m.count) table
        → leb (get_or table (32 * t + k) 0) off ≡ beats s u p x 0 off t k
    beat_seen come comers h =
        rw (cells_at (λ r i v. v ≡ beat_at m (get_or come r 0) r i) m.count table h t k in_table (omega (arith, j, ok.sized.few)))
        (beat_tells s u p x m ok is t l off small 0 (get_or come t 0) (comers.each t l) k j)

    pub until_seen : (o : Others) → Reads s u p x o → Cells (Lasts s m o) (32 * m.count) table → eqb (coin_of s k) (coin_of s t) ≡ false
        → ltb off (get_or table (32 * t + k) 0) ≡ outlasts s u p x (above s p t) off k
    until_seen o reads h apart =
        (cells_at (Lasts s m o) m.count table h t k in_table (omega (arith, j, ok.sized.few))).tells u p x reads is l j apart off small
