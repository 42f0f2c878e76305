use Rattle.box_links.proofs.Excluded.{box_links_agree}
use Rattle.box_links.proofs.laws.box_links_agree.Goals as goal

pub returns : goal.returns
returns c = box_links_agree c.link_views_agree.ensures
