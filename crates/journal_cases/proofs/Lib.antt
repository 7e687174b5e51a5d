mod FullBodies
