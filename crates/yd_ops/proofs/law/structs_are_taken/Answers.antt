use Rattle.yd_words.proofs.EachLemmas.{each_both}
use Rattle.yd_ops.specs.Received.{IsWritten, all_taken, with_group, groups_of}
use Rattle.yd_ops.specs.ReceivedLaw.{ArePaired}
use Rattle.yd_ops.proofs.GroupLemmas.{update_written, update_partners}
use Rattle.yd_ops.proofs.MendingLemmas.{HasPartners, paired_has, has_paired, mended_partners, mended_written}
use Rattle.yd_ops.proofs.TakingLemmas.{all_taken_written, with_group_is}
use Rattle.yd_ops.proofs.OnceLemmas.{update_once}
use Rattle.yd_ops.proofs.law.structs_are_taken.Goals as goal

pub returns : goal.returns
returns c = record {
  written = λ group taken w. mended_written (all_taken group taken) (all_taken_written group taken w);
  paired = λ group taken. has_paired (with_group group taken) (mended_partners (all_taken group taken));
  operations = λ group taken v own w paired. with_group_is group taken v (paired_has group own) w (paired_has taken paired);
  groups = λ update valid. each_both IsWritten HasPartners (λ group. IsWritten group × ArePaired group) (λ group v own. (v, has_paired group own)) (groups_of update)
      (update_written update) (update_partners update valid);
  once = update_once;
}
