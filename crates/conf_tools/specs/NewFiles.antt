-- The faults of a file that is made where nothing is: their names, and the statuses after them.
use Rattle.std.specs.Prelude.{ℕ, List, codes}
use Rattle.{conf_files.specs.declared.create.NewFileFault.NewFileFault, conf_tools.specs.declared.program.Status.Status}
use Rattle.conf_tools.specs.declared.program.Status.TheVariants.{Refused, Device}
use Rattle.conf_files.specs.declared.create.NewFileFault.TheVariants as new_file

abbrev pub new_file_fault_name : NewFileFault → List ℕ
new_file_fault_name new_file.FileExists = codes "FileExists"
new_file_fault_name new_file.Device = codes "Device"
new_file_fault_name new_file.OutOfMemory = codes "OutOfMemory"

abbrev pub status_of_new_file : NewFileFault → Status
status_of_new_file new_file.FileExists = Refused
status_of_new_file new_file.Device = Device
status_of_new_file new_file.OutOfMemory = Refused
