pub mod MoreDatagrams
