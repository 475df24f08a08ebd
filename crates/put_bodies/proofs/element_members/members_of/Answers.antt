use Rattle.put_bodies.proofs.element_members.members_of.Goals as goal

pub returns : goal.returns
returns c j begins = record {
  metric = c.in_ok-metric.ensures j begins;
  time = c.in_ok-time.ensures j begins;
  value = c.in_ok-value.ensures j begins;
  tags = c.in_ok-tags.ensures j begins;
}
