-- What a hand-in gives away: what is in the block being filled has no part in the steps of kinds 1, 2 and 3. "Kinds 4 to 7 are outside the
-- claim." It is claimed of the position with Slip 9's counts, as it is kept. To be believed beside the rules: `emptied`, `emptied_dated`,
-- `play_dated`, and the four definitions of Early.antt.
-- Assumes nothing.
use Rattle.std.specs.Prelude.{ℕ, ◌≤◌, ◌≡◌, true, ◌⊎◌, List, [], ◌∷◌, map}
use Rattle.laws.specs.Gather.{every}
use Rattle.sheet.specs.Refusal.{accepted}
use Rattle.sheet.specs.Setup.{conduct, stealth}
use Rattle.slots.specs.Slot.{with_block}
use Rattle.position.specs.declared.Position.{Position}
use Rattle.position.specs.Position.{slot}
use Rattle.position.specs.Effect.{with_slots}
use Rattle.position.specs.Play.{FourBytes, run, accepted_of}
use Rattle.position.specs.Open.{open_of, list_bytes}
use Rattle.position.specs.Answers.{list_answer}
use Rattle.dated.specs.declared.Dated.{Dated}
use Rattle.dated.specs.Dated.{dated_step}
use Rattle.claim_handins.specs.Early.{early_kind, early, early_bytes, written_bytes}

-- the position with nothing in the block being filled: no slot has a block entry, every other field is as it was
unfoldable pub emptied : Position → Position
emptied p = with_slots (map (with_block 0) p.slots) p

-- the same beside its counts, which stay
unfoldable pub emptied_dated : Dated → Dated
emptied_dated d = record { position = emptied d.position; opened = d.opened }

-- "two positions .. with equal chains, pools, shared knowledge, share marks and keys, that differ only in the block being filled"
abbrev pub BlockApart : Position → Position → Type 0
BlockApart p q = emptied p ≡ emptied q

-- and with equal counts
abbrev pub DatedApart : Dated → Dated → Type 0
DatedApart d e = emptied_dated d ≡ emptied_dated e

-- a row of steps on a position with its counts, refused ones passed over
unfoldable pub play_dated : List ℕ → List ℕ → List FourBytes → Dated → Dated
play_dated s u [] d = d
play_dated s u (b ∷ bs) d = play_dated s u bs (dated_step s u d b).dated

-- "Under open or loose conduct"; "Careful conduct is excepted: paying first looks at hand-ins too", and there are none with stealth 0
abbrev pub Unwatched : List ℕ → Type 0
Unwatched u = (conduct u ≤ 1) ⊎ (stealth u ≡ 0)

-- what is claimed of two positions "of one sheet and setup"
pub record Unseen (s u : List ℕ) (d e : Dated) : Type 0 where
  -- "every party has the same open steps of kinds 1, 2 and 3"
  pub open_same : (party kind : ℕ) → early_kind kind ≡ true → open_of s u d.position party kind ≡ open_of s u e.position party kind
  -- the same of the bytes of the whole list
  pub list_same : early_bytes (list_bytes s u d.position) ≡ early_bytes (list_bytes s u e.position)
  -- "and the same refusals of these", 11 and none among them
  pub refusal_same : (b : FourBytes) → early b ≡ true → (dated_step s u d b).refusal ≡ (dated_step s u e b).refusal
  -- "Any same row of such steps leaves the two still different in the block alone", refused ones passed over; the counts stay equal along it
  pub row_apart : (bs : List FourBytes) → every early bs ≡ true → DatedApart (play_dated s u bs d) (play_dated s u bs e)
  -- and the same steps of the row are accepted
  pub row_same : (bs : List FourBytes) → every early bs ≡ true → accepted_of s u bs d.position ≡ accepted_of s u bs e.position

-- for every sheet and setup, checked or not, and any two such positions, reachable or not
abbrev pub HandInsUnseen : Type 0
HandInsUnseen = (s u : List ℕ) → Unwatched u → (d e : Dated) → DatedApart d e → Unseen s u d e

-- "still different": after a row of such steps, under any conduct, each block entry is the one before it
abbrev pub BlockKept : Type 0
BlockKept = (s u : List ℕ) (bs : List FourBytes) → every early bs ≡ true → (d : Dated) (t : ℕ) → (slot (play_dated s u bs d).position t).block ≡ (slot d.position t).block

-- The same of the list call: two calls that answer 0, whatever their buffers, on journals that come to such positions, write the same
-- bytes for steps of kinds 1, 2 and 3.
abbrev pub ListsUnseen : Type 0
ListsUnseen =
    (s u : List ℕ)
    → Unwatched u
    → (j k out more : List ℕ)
    → BlockApart (run s u j).position (run s u k).position
    → (list_answer s u j out).refusal ≡ accepted
    → (list_answer s u k more).refusal ≡ accepted
    → early_bytes (written_bytes (list_answer s u j out)) ≡ early_bytes (written_bytes (list_answer s u k more))
