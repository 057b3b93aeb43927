-- The fault of a path as a fault of a store.
use Rattle.conf_state.specs.declared.fault.StoreFault.{StoreFault, TheVariants.{Path, OutOfMemory}}
use Rattle.json_pointer.specs.declared.fault.PathFault as path
use Rattle.json_pointer.specs.declared.fault.PathFault.TheVariants as path_faults

-- out of memory is a fault of the store itself, each other fault is one of the path
abbrev pub store_fault_of : path.PathFault → StoreFault
store_fault_of path_faults.OutOfMemory = OutOfMemory
store_fault_of fault = Path fault
