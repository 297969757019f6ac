-- Each promise equates the answer, and lent memory at the end, with its definition, so two that meet it are both that.
use mathlib.Core.Path.{refl, sym, ◌∙◌}
use seplogic.Ra.Ura.{Ura}
use base.Logic.{SProp, ent, sep, via, id⊢, fst∗, snd∗}
use prog.Memory.{Memory}
use prog.Routine.{Routine}
use types.Logic.{Logic}
use denote.RattleType.{RattleType}
use contract.Monad.{Fun, fact, fact_mono, fact_use}
use Rattle.coprocessor.specs.contracts.Coprocessor.fresh as fresh
use Rattle.coprocessor.specs.contracts.Coprocessor.write as write
use Rattle.coprocessor.specs.contracts.Coprocessor.read as read
use Rattle.coprocessor.specs.contracts.Coprocessor.run as run
use Rattle.coprocessor.specs.contracts.Coprocessor.save as save
use Rattle.coprocessor.specs.contracts.Coprocessor.load as load
use Rattle.leaves.specs.contracts.leaf_mix as leaf-mix
use Rattle.leaves.specs.contracts.leaf_holds as leaf-holds
use Rattle.leaves.specs.contracts.leaf_needed as leaf-needed
use Rattle.leaves.specs.contracts.leaf_get as leaf-get
use Rattle.leaves.specs.contracts.leaf_put as leaf-put
use Rattle.board.specs.contracts.xga_fresh as xga-fresh
use Rattle.board.specs.contracts.xga_write as xga-write
use Rattle.board.specs.contracts.xga_read as xga-read
use Rattle.board.specs.contracts.xga_run as xga-run
use Rattle.board.specs.contracts.xga_load as xga-load
use Rattle.entry.specs.contracts.write_in as write-in
use Rattle.entry.specs.contracts.write_own as write-own
use Rattle.console.specs.contracts.answers.obey as obey
use Rattle.console.specs.contracts.commands.command_of as command-of
use Rattle.console.specs.contracts.gather.gather as gather
use Rattle.console.specs.contracts.gather.command_in as command-in
use Rattle.console.specs.contracts.gather.Line.gather as line-gather
use Rattle.console.specs.contracts.gather.Line.command as line-command
use Rattle.console.specs.contracts.texts.put as put
use Rattle.console.specs.contracts.texts.answer_text as answer-text
use Rattle.console.specs.contracts.texts.memory_text as memory-text
use Rattle.theorems.specs.One.{One}

module _ {M : Type 1} (𝓤 : Ura M) where
  -- what two assertions say gives a third fact
  either : {P Q : SProp 𝓤} {φ ψ χ : Type 0} → ent 𝓤 P (fact 𝓤 φ) → ent 𝓤 Q (fact 𝓤 ψ) → (φ → ψ → χ) → ent 𝓤 (sep 𝓤 P Q) (fact 𝓤 χ)
  either {P} {Q} {φ} {ψ} {χ} p q f = fact_use 𝓤 φ (via 𝓤 P (fst∗ 𝓤 P Q) p) (λ x. via 𝓤 Q (snd∗ 𝓤 P Q) (via 𝓤 (fact 𝓤 ψ) q (fact_mono 𝓤 ψ χ (f x))))

  said : {φ : Type 0} → ent 𝓤 (fact 𝓤 φ) (fact 𝓤 φ)
  said {φ} = id⊢ 𝓤 (fact 𝓤 φ)

  -- the clauses of one promise, together
  two : {φ ψ : Type 0} → ent 𝓤 (sep 𝓤 (fact 𝓤 φ) (fact 𝓤 ψ)) (fact 𝓤 (φ × ψ))
  two = either said said (λ x y. (x, y))

module _ {M : Type 1} {𝓤 : Ura M} (𝓛 : Logic 𝓤) (mem : Memory → SProp 𝓤) (runs : Routine → Fun 𝓤) where
  pub fresh_one : One 𝓤 fresh.ended (fresh.clauses 𝓛 mem runs)
  fresh_one κs a g r s m n = either 𝓤 (said 𝓤) (said 𝓤) (λ p q. (p ∙ sym q, refl))

  pub write_one : One 𝓤 write.ended (write.clauses 𝓛 mem runs)
  write_one κs a g r s m n = either 𝓤 (said 𝓤) (said 𝓤) (λ p q. (p ∙ sym q, refl))

  pub read_one : One 𝓤 read.ended (read.clauses 𝓛 mem runs)
  read_one κs a g r s m n = either 𝓤 (said 𝓤) (said 𝓤) (λ p q. (p ∙ sym q, refl))

  pub load_one : One 𝓤 load.ended (load.clauses 𝓛 mem runs)
  load_one κs a g r s m n = either 𝓤 (said 𝓤) (said 𝓤) (λ p q. (p ∙ sym q, refl))

  pub run_one : One 𝓤 run.ended (run.clauses 𝓛 mem runs)
  run_one κs a g r s m n = either 𝓤 (said 𝓤) (said 𝓤) (λ p q. (p.0 ∙ sym q.0, λ i. (tt, ((p.1 ∙ sym q.1) i, (tt, tt)))))

  pub save_one : One 𝓤 save.ended (save.clauses 𝓛 mem runs)
  save_one κs a g r s m n = either 𝓤 (two 𝓤) (two 𝓤) (λ p q. (p.0 ∙ sym q.0, λ i. (tt, ((p.1 ∙ sym q.1) i, tt))))

  pub leaf_mix_one : One 𝓤 leaf-mix.ended (leaf-mix.clauses 𝓛 mem runs)
  leaf_mix_one κs a g r s m n = either 𝓤 (said 𝓤) (said 𝓤) (λ p q. (p ∙ sym q, refl))

  pub leaf_holds_one : One 𝓤 leaf-holds.ended (leaf-holds.clauses 𝓛 mem runs)
  leaf_holds_one κs a g r s m n = either 𝓤 (said 𝓤) (said 𝓤) (λ p q. (p ∙ sym q, refl))

  pub leaf_needed_one : One 𝓤 leaf-needed.ended (leaf-needed.clauses 𝓛 mem runs)
  leaf_needed_one κs a g r s m n = either 𝓤 (said 𝓤) (said 𝓤) (λ p q. (p ∙ sym q, refl))

  pub leaf_get_one : One 𝓤 leaf-get.ended (leaf-get.clauses 𝓛 mem runs)
  leaf_get_one κs a g r s m n = either 𝓤 (said 𝓤) (said 𝓤) (λ p q. (p ∙ sym q, refl))

  pub leaf_put_one : One 𝓤 leaf-put.ended (leaf-put.clauses 𝓛 mem runs)
  leaf_put_one κs a g r s m n = either 𝓤 (said 𝓤) (said 𝓤) (λ p q. (refl, λ i. ((p ∙ sym q) i, (tt, (tt, (tt, (tt, (tt, (tt, tt)))))))))

  pub xga_fresh_one : One 𝓤 xga-fresh.ended (xga-fresh.clauses 𝓛 mem runs)
  xga_fresh_one κs a g r s m n = either 𝓤 (said 𝓤) (said 𝓤) (λ p q. (p.0 ∙ sym q.0, λ i. ((p.1 ∙ sym q.1) i, (tt, tt))))

  pub xga_write_one : One 𝓤 xga-write.ended (xga-write.clauses 𝓛 mem runs)
  xga_write_one κs a g r s m n = either 𝓤 (said 𝓤) (said 𝓤) (λ p q. (p.0 ∙ sym q.0, λ i. ((p.1 ∙ sym q.1) i, (tt, (tt, (tt, tt))))))

  pub xga_read_one : One 𝓤 xga-read.ended (xga-read.clauses 𝓛 mem runs)
  xga_read_one κs a g r s m n = either 𝓤 (said 𝓤) (said 𝓤) (λ p q. (p ∙ sym q, refl))

  pub xga_run_one : One 𝓤 xga-run.ended (xga-run.clauses 𝓛 mem runs)
  xga_run_one κs a g r s m n = either 𝓤 (said 𝓤) (said 𝓤) (λ p q. (p.0 ∙ sym q.0, λ i. ((p.1 ∙ sym q.1) i, ((p.2 ∙ sym q.2) i, (tt, tt)))))

  pub xga_load_one : One 𝓤 xga-load.ended (xga-load.clauses 𝓛 mem runs)
  xga_load_one κs a g r s m n = either 𝓤 (said 𝓤) (said 𝓤) (λ p q. (p ∙ sym q, refl))

  pub write_in_one : One 𝓤 write-in.ended (write-in.clauses 𝓛 mem runs)
  write_in_one κs a g r s m n = either 𝓤 (said 𝓤) (said 𝓤) (λ p q. (p.0 ∙ sym q.0, λ i. ((p.1 ∙ sym q.1) i, (tt, (tt, (tt, tt))))))

  pub write_own_one : One 𝓤 write-own.ended (write-own.clauses 𝓛 mem runs)
  write_own_one κs a g r s m n = either 𝓤 (said 𝓤) (said 𝓤) (λ p q. (p ∙ sym q, refl))

  pub command_of_one : One 𝓤 command-of.ended (command-of.clauses 𝓛 mem runs)
  command_of_one κs a g r s m n = either 𝓤 (said 𝓤) (said 𝓤) (λ p q. (p ∙ sym q, refl))

  pub obey_one : One 𝓤 obey.ended (obey.clauses 𝓛 mem runs)
  obey_one κs a g r s m n = either 𝓤 (said 𝓤) (said 𝓤) (λ p q. (p.0 ∙ sym q.0, λ i. (tt, (tt, ((p.1 ∙ sym q.1) i, tt)))))

  pub gather_one : One 𝓤 gather.ended (gather.clauses 𝓛 mem runs)
  gather_one κs a g r s m n = either 𝓤 (said 𝓤) (said 𝓤) (λ p q. (p.0 ∙ sym q.0, λ i. ((p.1 ∙ sym q.1) i, (tt, (tt, tt)))))

  pub command_in_one : One 𝓤 command-in.ended (command-in.clauses 𝓛 mem runs)
  command_in_one κs a g r s m n = either 𝓤 (said 𝓤) (said 𝓤) (λ p q. (p ∙ sym q, refl))

  -- for a line of any size
  pub line_gather_one : (N : RattleType) → One 𝓤 (line-gather.ended N) (line-gather.clauses N 𝓛 mem runs)
  line_gather_one N κs a g r s m n =
      either 𝓤 (two 𝓤) (two 𝓤)
      (λ p q. (refl, λ i. (record { bytes = (p.1 ∙ sym q.1) i; count = (p.0 ∙ sym q.0) i }, (tt, tt))))

  pub line_command_one : (N : RattleType) → One 𝓤 (line-command.ended N) (line-command.clauses N 𝓛 mem runs)
  line_command_one N κs a g r s m n = either 𝓤 (said 𝓤) (said 𝓤) (λ p q. (p ∙ sym q, refl))

  pub put_one : One 𝓤 put.ended (put.clauses 𝓛 mem runs)
  put_one κs a g r s m n = either 𝓤 (said 𝓤) (said 𝓤) (λ p q. (p.0 ∙ sym q.0, λ i. ((p.1 ∙ sym q.1) i, (tt, (tt, tt)))))

  pub answer_text_one : One 𝓤 answer-text.ended (answer-text.clauses 𝓛 mem runs)
  answer_text_one κs a g r s m n = either 𝓤 (two 𝓤) (two 𝓤) (λ p q. (p.0.0 ∙ sym q.0.0, λ i. (tt, (tt, ((p.0.1 ∙ sym q.0.1) i, tt)))))

  pub memory_text_one : One 𝓤 memory-text.ended (memory-text.clauses 𝓛 mem runs)
  memory_text_one κs a g r s m n = either 𝓤 (two 𝓤) (two 𝓤) (λ p q. (refl, λ i. (tt, ((p.0 ∙ sym q.0) i, tt))))
