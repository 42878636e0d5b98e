-- What can come beside what is above two transactions, asked of the position again only where it differs, and the heights from it.
-- Assumes nothing.
use Rattle.std.specs.Prelude.{ℕ, ◌<◌, ◌≡◌, Bool, false, not, ◌&&◌, List, eqb, ltb, get_or}
use Rattle.laws.specs.Mask.{bit}
use Rattle.sheet.specs.Field.{count}
use Rattle.ledger.specs.Coin.{coin_of}
use Rattle.position.specs.declared.Position.{Position}
use Rattle.attainable.specs.declared.Others.{Others}
use Rattle.attainable.specs.Forms.Others.{Reads}
use Rattle.attainable.specs.Forms.Round.{Attains, AttainsElsewhere}
use Rattle.slack.specs.Beaten.{above}
use Rattle.kept.specs.Forms.Prospect.{none, outlasts}
use Rattle.prospect.specs.declared.Marks.{Marks}
use Rattle.prospect.specs.declared.until.Found.{Found}
use Rattle.prospect.specs.Forms.Marks.{Marked}

-- k can last beside what is above t: of another coin, not gone, contract or paying X
unfoldable pub lasting : Marks → ℕ → ℕ → Bool
lasting m t k = ltb k m.count && (not (bit m.gone k) && (bit m.payable k && bit (get_or m.foreign t 0) k))

-- f has what can come beside its set
pub record Holds (s : List ℕ) (o : Others) (f : Found) : Type 0 where
  pub can : Attains s o f.also f.can
  pub elsewhere : AttainsElsewhere s o f.also f.elsewhere

-- v is the height from which k fails or is beaten beside what is above t
pub record Lasts (s : List ℕ) (m : Marks) (o : Others) (t k v : ℕ) : Type 0 where
  pub tells : (u : List ℕ) (p : Position) (x : ℕ) → Reads s u p x o → Marked s u p x m → t < count s → k < count s → eqb (coin_of s k) (coin_of s t) ≡ false
      → (off : ℕ) → off < none → ltb off v ≡ outlasts s u p x (above s p t) off k
