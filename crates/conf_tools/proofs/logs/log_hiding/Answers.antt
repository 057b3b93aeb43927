-- There is no memory for what is hidden.
use Rattle.std.proofs.Common.{inl, inr, refl}
use Rattle.conf_state.specs.declared.fault.StoreFault.TheVariants.{OutOfMemory}
use Rattle.conf_tools.proofs.logs.log_hiding.Goals as goal

pub returns-in-Err : goal.returns-in-Err
returns-in-Err g c = λ pointers are.
    inr (record { fault = OutOfMemory; why = inl refl; ends = refl; world_stays = refl; keeps = refl })
