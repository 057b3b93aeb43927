-- What the definitions and the code of this crate name of others.
pub use Rattle.conf_disk.specs.Folder.{File, Append, after, with_pending, bytes_under, empty_file, Stage, Folder, stages, Reads, under}
pub use Rattle.conf_disk.specs.{Folder.{several_waited, CreateNext, Sync, RenameNext, RemoveNext, SyncFolder, synced_whole}, Image.IsImage}
pub use Rattle.conf_disk.specs.{Image.{Image, IsWorn, IsTorn, synced_file, image_now}, Log.folder_after, Models.DiskModel}
pub use Rattle.conf_disk.specs.{Moments.{LeavesOnly, CountsFailures, greatest}, declared.disk.Name.TheVariants.{Store, Next}}
