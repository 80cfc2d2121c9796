-- Lists of views and of buffers, and how many buffers are absent
pub mod Places
pub mod AbsentBuffers
-- Each step keeps the rule: opening (src/stocking.rt), puts and takes (src/turning.rt), draining (src/draining.rt)
pub mod PoolOpens
pub mod PutAndTake
pub mod PoolEnds
