-- The names of a disk as those of a system.
use Rattle.{conf_disk.specs.declared.disk.Name.Name, conf_system.specs.declared.system.FileName.FileName}
use Rattle.conf_disk.specs.declared.disk.Name.TheVariants as disk
use Rattle.conf_system.specs.declared.system.FileName.TheVariants as system

abbrev pub file_name : Name → FileName
file_name disk.Store = system.Store
file_name disk.Next = system.Next
