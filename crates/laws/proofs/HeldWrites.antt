-- A fresh record holds its fields' bounds, and every write keeps them: what a register takes has no more bytes than the register.
use mathlib.Core.Path.{refl, ◌∙◌}
use Prim.Native.Nat.{ℕ, ◌%◌, ◌^◌, ◌<◌}
use native.Mathlib.Omega.{arith}
use lib.Dec.{lit<}
use lib.ListN.{length-set, get_or-replicate}
use Rattle.numbers.specs.declared.bytes.Write.{Write}
use Rattle.pixels.specs.declared.Map.{Map}
use Rattle.parts.specs.Fresh.{fresh_registers}
use Rattle.parts.specs.Latches.{map_latched, ink_latched, compare_latched, colours_latched, figure_latched, registers_latched}
use Rattle.parts.specs.Moved.{with_moved}
use Rattle.parts.proofs.TakeLaws.{taken_lt}
use Rattle.rules.specs.Maps.{fresh_map, map_at}
use Rattle.coprocessor.specs.declared.Coprocessor.{Coprocessor}
use Rattle.coprocessor.specs.Fresh.{fresh_of}
use Rattle.laws.specs.Held.{Held}
use Rattle.coprocessor.specs.Writes.{stored, started, write_answer}
use Rattle.laws.proofs.AcceptedWrites.{by_write}
use Rattle.laws.proofs.MapsLaws.{map_either}

pub held_fresh : (size : ℕ) → Held (fresh_of size)
unfolding fresh_of fresh_registers map_at
held_fresh size =
    record {
      four = refl;
      bases = λ field. rw (get_or-replicate 4 (field % 4) fresh_map fresh_map (omega arith)) (lit< tt);
      colours =
          record {
            foreground_mix = lit< tt;
            background_mix = lit< tt;
            compare_value = lit< tt;
            planes = lit< tt;
            carries = lit< tt;
            foreground_colour = lit< tt;
            background_colour = lit< tt;
          };
      figure = record { steps = lit< tt; operations = lit< tt };
    }

held_stored : (w : Write) (c : Coprocessor) → Held c → Held (stored w c)
unfolding map_latched ink_latched compare_latched colours_latched figure_latched registers_latched stored
held_stored w c h =
    let colours = h.colours in
    record {
      four = length-set c.maps _ _ ∙ h.four;
      bases = λ field. map_either w c (λ (m : Map). m.base < 2 ^ 32) field (taken_lt 4 0x14 w _ (h.bases c.registers.index)) (h.bases field);
      colours =
          record {
            foreground_mix = taken_lt 1 0x48 w _ colours.foreground_mix;
            background_mix = taken_lt 1 0x49 w _ colours.background_mix;
            compare_value = taken_lt 4 0x4C w _ colours.compare_value;
            planes = taken_lt 4 0x50 w _ colours.planes;
            carries = taken_lt 4 0x54 w _ colours.carries;
            foreground_colour = taken_lt 4 0x58 w _ colours.foreground_colour;
            background_colour = taken_lt 4 0x5C w _ colours.background_colour;
          };
      figure = record { steps = taken_lt 4 0x2C w _ h.figure.steps; operations = taken_lt 4 0x7C w _ h.figure.operations };
    }

-- a start changes none of them
held_started : (length : ℕ) (c : Coprocessor) → Held c → Held (started length c)
unfolding started with_moved
held_started length c h = record { four = h.four; bases = h.bases; colours = h.colours; figure = h.figure }

pub held_written : (w : Write) (c : Coprocessor) → Held c → Held (write_answer w c).coprocessor
held_written w c h =
    by_write w c Held (λ refused. h) (λ accepted none. held_stored w c h)
    (λ accepted starts. held_started w.length (stored w c) (held_stored w c h))
