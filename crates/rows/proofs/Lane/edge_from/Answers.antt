-- `rows::Lane::edge_from` is the definition's choice: the pixels that are passed and those that are made are in one byte.
use Rattle.std.proofs.Common.{arith}
use Rattle.rows.proofs.ByteLaws.{edge_bits}
use Rattle.rows.proofs.Lane.edge_from.Goals as goal

pub overflow_add-result : goal.overflow_add-result
overflow_add-result c =
    let a = c.args in
    omega (arith, edge_bits a.self.format a.passed a.count c.requires)
