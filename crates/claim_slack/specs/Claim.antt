-- Slack: what a party keeps while it takes no step. Two promises, in words that do not mention how it is worked out.
-- Assumes nothing.
use Rattle.std.specs.Prelude.{ℕ, ◌+◌, ◌-◌, ◌≤◌, ◌≡◌, true, List}
use Rattle.sheet.specs.Refusal.{accepted}
use Rattle.sheet.specs.Check.{sheet_refusal}
use Rattle.sheet.specs.Setup.{setup_refusal}
use Rattle.sheet.specs.LockHeight.{never}
use Rattle.slots.specs.Destination.{is_party}
use Rattle.position.specs.declared.Position.{Position}
use Rattle.position.specs.Play.{FourBytes, play}
use Rattle.claim_ledger.specs.Claim.{position_of}
use Rattle.claim_attainable.specs.Words.{without}
use Rattle.slack.specs.Kept.{longest}
use Rattle.slack.specs.Slack.{lasts, slack}

-- "the slack of X is at least k": a number, not "never", and no less than k
abbrev pub AtLeast : List ℕ → List ℕ → Position → ℕ → ℕ → Type 0
AtLeast s u p x k = (slack s u p x ≡ never → ⊥) × (k ≤ slack s u p x)

-- "What is kept for k blocks is kept for fewer. The number written is the greatest up to 10,000."
pub record Falling (s u : List ℕ) (p : Position) (x : ℕ) : Type 0 where
  pub fewer : (k less : ℕ) → less ≤ k → lasts s u p x k ≡ true → lasts s u p x less ≡ true
  -- what is written, where it is a number, is one up to 10,000 that is kept; and each such one is no greater
  pub written : (slack s u p x ≡ never → ⊥) → (slack s u p x ≤ longest) × (lasts s u p x (slack s u p x) ≡ true)
  pub greatest : (k : ℕ) → k ≤ longest → lasts s u p x k ≡ true → AtLeast s u p x k

-- "If the slack of X is at least k, then after any further list without X that mines j ≤ k blocks the slack of X is at least k − j.
-- Refused steps too; bumps, hand-ins, gifts among the others, all of it.": from p to q, for what is kept, up to 10,000 blocks, and for the slack
pub record Stays (s u : List ℕ) (p q : Position) (x : ℕ) : Type 0 where
  pub keeps : (k j : ℕ) → k ≤ longest → q.mined ≡ p.mined + j → j ≤ k → lasts s u p x k ≡ true → lasts s u q x (k - j) ≡ true
  pub remains : (k j : ℕ) → q.mined ≡ p.mined + j → j ≤ k → AtLeast s u p x k → AtLeast s u q x (k - j)

-- what is claimed of a list of steps, a party and any further list, refused steps passed over
pub record Lasting (s u : List ℕ) (now : List FourBytes) (x : ℕ) : Type 0 where
  pub falling : Falling s u (position_of s u now) x
  -- "without X": no step of kinds 1 to 4 has X as its party
  pub stays : (next : List FourBytes) → without x next ≡ true → Stays s u (position_of s u now) (play s u next (position_of s u now)) x

-- for every sheet and setup whose checks give 0, every list of steps and every party of the sheet
abbrev pub Slack : Type 0
Slack = (s u : List ℕ) → sheet_refusal s ≡ accepted → setup_refusal s u ≡ accepted → (now : List FourBytes) (x : ℕ) → is_party s x ≡ true → Lasting s u now x
