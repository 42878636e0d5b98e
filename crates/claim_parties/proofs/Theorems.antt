-- The claims about a sheet of two and the sheet of three with a Carol who has nothing, and about renamed parties.
-- Assumes nothing.
use Rattle.claim_parties.specs.Claim.{StepAsTwo, RunAsTwo}
use Rattle.claim_parties.specs.Renaming.{RenamingOfSteps, RenamingOfRuns, RenamingOfReports, RenamingOfSheets, RenamingOfRings}
use Rattle.claim_parties.proofs.Checks.{passes_with}
use Rattle.claim_parties.proofs.Played.{step_same, run_same}
use Rattle.claim_parties.proofs.RenamedSteps.{step_renamed}
use Rattle.claim_parties.proofs.RenamedRuns.{run_renamed, row_renamed}
use Rattle.claim_parties.proofs.RenamedSheets.{sheet_renamed}
use Rattle.claim_parties.proofs.RenamedChecks.{passes_renamed}
use Rattle.claim_parties.proofs.RenamedRings.{ring_renamed}

pub step_as_two : StepAsTwo
step_as_two s u two o p b n = step_same s u two o p b n

pub run_as_two : RunAsTwo
run_as_two s u j two h o e = record { passes = passes_with s two h; runs = run_same s u two o h j e }

pub renaming_of_steps : RenamingOfSteps
renaming_of_steps ρ s w u c o p q r b = step_renamed ρ s w u c o p q r b

pub renaming_of_runs : RenamingOfRuns
renaming_of_runs ρ s w u c f g o j = run_renamed ρ s w u c o f g j

pub renaming_of_reports : RenamingOfReports
renaming_of_reports ρ s w u c p q r t = row_renamed ρ s w u c p q r t

pub renaming_of_sheets : RenamingOfSheets
renaming_of_sheets ρ s three h = record { passes = passes_renamed ρ s three h; renamed = sheet_renamed ρ s three h }

pub renaming_of_rings : RenamingOfRings
renaming_of_rings ρ s u j three h = ring_renamed ρ s u three h j
