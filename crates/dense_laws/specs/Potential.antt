-- The dense charge: twice a bound on the moves that a run by Hsu and Huang's rules can still make, whatever
-- the edges. It depends on the unmarried nodes alone. This potential is the project's own.
use Rattle.std.specs.Prelude.{ℕ, ◌+◌, ◌-◌, ◌*◌, not, count_by, is_none}
use Rattle.rule_machine.specs.declared.act.Act.TheVariants.{Abandon}
use Rattle.rule_machine.specs.Network.{names}
use Rattle.rule_machine.specs.State.{State, pointer, married}
use Rattle.rule_machine.specs.HsuHuang.{hsu_huang_guard}

abbrev pub unmarried_nodes : State → ℕ
unmarried_nodes s = count_by (λ v. not (married s v)) (names s.network)

-- the unmarried nodes whose pointer is null
abbrev pub idle_nodes : State → ℕ
idle_nodes s = count_by (λ v. is_none (pointer s v)) (names s.network)

-- the unmarried nodes that point at a node which points at another node
abbrev pub stuck_nodes : State → ℕ
stuck_nodes s = count_by (λ v. hsu_huang_guard s v Abandon) (names s.network)

-- with k unmarried nodes, c of them stuck and f idle: k² - 2k + 4c + 2f
abbrev pub dense_charge : State → ℕ
dense_charge s =
    unmarried_nodes s * unmarried_nodes s + 4 * stuck_nodes s + 2 * idle_nodes s - 2 * unmarried_nodes s
