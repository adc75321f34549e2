-- Every figure holds, by computation.
use mathlib.Core.Path.{◌≡◌, refl}
use mathlib.Core.List.{map}
use Rattle.lists.specs.Numbers.{every, lowest, tabulate, all}
use Rattle.mask.specs.Mask.{has, without, plus}
use Rattle.plan.specs.Plan.{at, successors, masks, template_fits, creates}
use Rattle.rules.specs.Judge.{or_else, first_below, first_in, lowest_offender, edge_rules, step_rules, check_edge, check_edges}
use Rattle.machine.specs.Machine.{tag, refuse_if, if_done, plan_fits, process_fits, rising, population_fits, well_formed, find, remove, branch_fits, children, may_become, child, spawn, step_answer, stepped, settled, step_by, agree, passes, send_by, movable, label_with, move_answer, relabel, moved, move_by, answer_to, run}
use Rattle.machine.specs.State.{call_of, code_of}
use Rattle.cases.specs.Figures.{computed, figures, computed_edge, edge_figures}

pub figures_hold : map computed figures ≡ figures
unfolding every tabulate all has without plus at successors masks creates tag refuse_if if_done template_fits plan_fits process_fits rising population_fits well_formed find remove branch_fits children step_rules may_become child spawn step_answer stepped settled step_by agree passes send_by movable label_with move_answer relabel moved move_by answer_to run call_of code_of computed figures
figures_hold = refl

pub edges_hold : map computed_edge edge_figures ≡ edge_figures
unfolding every lowest all has at successors or_else first_below first_in lowest_offender edge_rules step_rules check_edge check_edges may_become computed_edge edge_figures
edges_hold = refl
