use mathlib.Core.Path.{ap}
use Prim.Native.Nat.{◌<◌}
use native.Mathlib.Omega.{arith}
use Rattle.pairing.specs.CCodes.{imported_code}
use Rattle.pairing.proofs.importing.imported_code.Goals as goal
use Rattle.pairing.proofs.importing.imported_code.Goals.{In-Ok}

-- a sheet is short
few : (c : In-Ok) → c.in-Ok.size < 65536
few c = c.requires _ c.in-Ok.is

pub overflow_cast-result : goal.overflow_cast-result
overflow_cast-result c = omega (arith, few c)

pub overflow_mul-result : goal.overflow_mul-result
overflow_mul-result c = omega (arith, few c)

pub returns-in-Err : goal.returns-in-Err
returns-in-Err c = omega (arith, ap imported_code c.in-Err.is)

pub returns-in-Ok : goal.returns-in-Ok
returns-in-Ok c = omega (arith, ap imported_code c.in-Ok.is)
