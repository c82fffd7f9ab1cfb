use Rattle.yd_app.proofs.GenerateLemmas.{found_written}
use Rattle.yd_app.proofs.commands.generate.generate.Goals as goal

pub returns : goal.returns
returns c = λ inputs. record {
  is_output = found_written c.args.steps c.in_ok-found.found c.in_ok-bytes.bytes.items c.in_ok-found.ensures c.in_ok-bytes.ensures;
  again = tt;
}
