use Rattle.conf_system.proofs.Steps.{store_write-appends, next_write-appends, sync-steps, create-steps, rename-steps, remove-steps}
use Rattle.conf_system.proofs.Steps.{next_sync-steps, link-steps, unlink-none, failed_rename-steps, failed_link-steps, folder_sync-steps}
use Rattle.conf_system.proofs.laws.calls_are_steps.Goals as goal

pub returns-clause-store_writes : goal.returns-clause-store_writes
returns-clause-store_writes c = store_write-appends

pub returns-clause-next_writes : goal.returns-clause-next_writes
returns-clause-next_writes c = next_write-appends

pub returns-clause-syncs : goal.returns-clause-syncs
returns-clause-syncs c = sync-steps

pub returns-clause-creates : goal.returns-clause-creates
returns-clause-creates c = create-steps

pub returns-clause-renames : goal.returns-clause-renames
returns-clause-renames c = rename-steps

pub returns-clause-next_syncs : goal.returns-clause-next_syncs
returns-clause-next_syncs c = next_sync-steps

pub returns-clause-links : goal.returns-clause-links
returns-clause-links c = link-steps

pub returns-clause-failed_renames : goal.returns-clause-failed_renames
returns-clause-failed_renames c = failed_rename-steps

pub returns-clause-failed_links : goal.returns-clause-failed_links
returns-clause-failed_links c = failed_link-steps

pub returns-clause-unlinks : goal.returns-clause-unlinks
returns-clause-unlinks c = unlink-none

pub returns-clause-removes : goal.returns-clause-removes
returns-clause-removes c = remove-steps

pub returns-clause-folder_syncs : goal.returns-clause-folder_syncs
returns-clause-folder_syncs c = folder_sync-steps
