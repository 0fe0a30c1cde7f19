-- The densities of tables by their numbers.
use Rattle.std.specs.Prelude.{ℕ}
use Rattle.random.specs.declared.density.Density.{Density}
use Rattle.random.specs.declared.density.Density.TheVariants.{Quarter, Half, ThreeQuarters}

-- the number that stands for a density
abbrev pub number_of : Density → ℕ
number_of Quarter = 0
number_of Half = 1
number_of ThreeQuarters = 2
