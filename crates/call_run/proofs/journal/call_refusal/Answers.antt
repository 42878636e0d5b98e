-- The setup, then the journal.
use Rattle.std.proofs.lemmas.Result.{err_from_is_err_and}
use Rattle.sheet.proofs.Refusing.{passed_on, some_refused, ends}
use Rattle.laws.proofs.Prelude.{refl, ◌∙◌}
use Rattle.call_run.proofs.Calls.{by_setup, by_journal, by_none}
use Rattle.call_run.proofs.journal.call_refusal.Goals as goal

pub returns-in_err-setup_refusal : goal.returns-in_err-setup_refusal
returns-in_err-setup_refusal c = passed_on _ (err_from_is_err_and _ c.from_residual.ensures.1) ∙ by_setup _ _ _ _ c.requires c.in_err-setup_refusal.ensures (some_refused _)

pub returns : goal.returns
returns c =
    ends _ _ _ c.require.ensures
    (λ y. by_none _ _ _ _ _ c.requires c.in_ok-setup_refusal.ensures refl c.journal_right.ensures y)
    (λ y. by_journal _ _ _ _ _ c.requires c.in_ok-setup_refusal.ensures refl c.journal_right.ensures y)
