-- What the proofs of this crate name of others.
pub use Rattle.conf_disk.proofs.{Images.{get_or-set_cases, grown, grown-grows, after-grown}, Moments.{LeavesOnly-weaker, LeavesOnly-joined}}
pub use Rattle.conf_disk.proofs.{Moments.{LeavesOnly-now, LeavesOnly-step, LeavesOnly-same}, Stops.{IsTorn-synced, IsTornAt-whole}}
pub use Rattle.conf_disk.{proofs.Stops.only_stage, specs.Folder.{Append, after, with_pending, bytes_under, File, empty_file, file_bytes}}
pub use Rattle.conf_disk.specs.Folder.{Stage, Folder, stages, with_file, bytes_at, Tells, Reads, Step, Sync, SyncFolder, synced_whole}
pub use Rattle.conf_disk.specs.Folder.{synced_first, after_part, Performs, under, CreateNext, RenameNext, RemoveNext, after_remove}
pub use Rattle.conf_disk.specs.Folder.{after_create, after_rename, with_notes, several_waited, is_place, noted_at, noted_behind, noted_but}
pub use Rattle.conf_disk.specs.{Folder.noted_by_append, Image.{IsImage, IsWhole, Image, IsTornAt, synced_file, IsMade, image_now}}
pub use Rattle.conf_disk.specs.{Image.{IsApartFrom, IsTorn, IsStage, IsWorn}, LogLaws.{now_staged, after-whole}, Models.DiskModel}
pub use Rattle.conf_disk.specs.{Moments.{LeavesOnly, CountsFailures, TimeGoesOn, IsChange}, declared.disk.Disk.Ghosts}
pub use Rattle.conf_disk.specs.declared.disk.{DiskFault.DiskFault, Name.{Name, TheVariants.{Store, Next}}}
pub use Rattle.std.proofs.lemmas.List.{append-nil, get_or-set_same, get_or-set_other, get_or_append_left, Elements.All-contains}
pub use Rattle.std.proofs.lemmas.List.Elements.{Contains-append_right, Contains-append_cases}
