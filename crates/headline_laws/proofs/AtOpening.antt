-- What the logs that shards found at opening tell.
pub mod RecordedAreKnown
pub mod EarlierOnesStoodThere
pub mod DoubtedStayKnown
