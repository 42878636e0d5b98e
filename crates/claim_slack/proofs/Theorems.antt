-- What a party keeps while it takes no step: the claims of specs/Claim.antt.
-- Assumes nothing.
use Rattle.laws.proofs.Prelude.{ℕ, ◌+◌, ◌-◌, ◌≤◌, ◌≡◌, true, List, arith}
use Rattle.position.proofs.Rules.{sheet_refusal, never, setup_refusal, is_party, start, FourBytes, play}
use Rattle.position.specs.declared.Position.{Position}
use Rattle.claim_attainable.specs.Words.{without}
use Rattle.slack.specs.Kept.{longest}
use Rattle.slack.specs.Slack.{lasts, slack}
use Rattle.slack.proofs.Greatest.{greatest_passes, greatest_most}
use Rattle.claim_slack.specs.Claim.{Falling, Stays, Slack}
use Rattle.claim_slack.proofs.Reached.{Reached, reached_start, reached_play}
use Rattle.claim_slack.proofs.Lasting.{lasts_fewer, lasts_keeps}

module _ (s u : List ℕ) (h : sheet_refusal s ≡ 0) (k : setup_refusal s u ≡ 0) (x : ℕ) (who : is_party s x ≡ true) where
  module _ (p : Position) (w : Reached s u p) where
    falling : Falling s u p x
    unfolding slack
    falling =
        record {
          fewer = lasts_fewer s u h k x who p w;
          written = greatest_passes (lasts s u p x) never longest;
          greatest = greatest_most (lasts s u p x) never longest (omega arith);
        }

  module _ (p : Position) (w : Reached s u p) (bs : List FourBytes) (i : without x bs ≡ true) where
    abbrev q : Position
    q = play s u bs p

    stays : Stays s u p q x
    stays =
        record {
          keeps = lasts_keeps s u h k x who p w bs i;
          remains = λ n j e m y.
              let most = (falling p w).written y.0 in
              (falling q (reached_play s u h k bs p w)).greatest (n - j) (omega (arith, y.1, most.0))
              (lasts_keeps s u h k x who p w bs i n j (omega (arith, y.1, most.0)) e m (lasts_fewer s u h k x who p w (slack s u p x) n y.1 most.1));
        }

-- For every sheet and setup whose checks give 0, every list of steps, every party and every further list.
pub slack_lasts : Slack
slack_lasts s u h k now x who =
    let w = reached_play s u h k now (start s) (reached_start s u) in
    record {
      falling = falling s u h k x who (play s u now (start s)) w;
      stays = λ bs i. stays s u h k x who (play s u now (start s)) w bs i;
    }
